-- The nodes of a tier: a source, and relays with links of its history.
use Rattle.std.specs.Prelude.{◌≡◌, ◌⊎◌, ◌+◌, ◌-◌, ◌^◌, ℕ, min, List, ◌∷◌, Ok, length, slice_index_or, slice_set}
use Rattle.std.specs.List.{AllByRecursion, AllZip}
use Rattle.std.specs.FinMap.{len}
use Rattle.ovs_links.specs.Chains.{GrowsInto}
use Rattle.ovs_links.specs.Outcomes.{taken_all, with_links, merge_answer, merged}
use Rattle.ovs_links.specs.Pruning.{IsPruned}
use Rattle.ovs_links.specs.Settling.{KeepsLinks, after_settle}
use Rattle.ovs_links.specs.Sets.{Holds}
use Rattle.ovs_links.specs.Steps.{FoldedValue, folded_of}
use Rattle.ovs_links.specs.Store.{Stored, IsStore, IsChainOf, start_in}
use Rattle.ovs_links.specs.declared.link.Link.{Link}
use Rattle.ovs_source.specs.Commits.{IsSource}
use Rattle.ovs_world.specs.declared.holding.Taken.{Taken}

-- ---- one node

-- a store with links of the source alone
pub record IsNode (source s : Stored) : Type 0 where
  pub schema : s.schema ≡ source.schema
  pub store : IsStore s
  pub within : (l : Link) → Holds s.links l → Holds source.links l

-- it has folded the longest chain of its links
abbrev pub IsSettled : Stored → Type 0
IsSettled s = IsChainOf s s.folded

-- the same store later: what was held is, and what was folded is, or links from a greater start
pub record Extends (s t : Stored) : Type 0 where
  pub schema : t.schema ≡ s.schema
  pub store : IsStore t
  pub keeps : (l : Link) → Holds s.links l → Holds t.links l
  pub grows : GrowsInto s.folded t.folded

-- the store after it took links, and settled
abbrev pub held : Stored → List Link → Stored
held s ls = after_settle (taken_all s ls)

-- the same store without the n links that can be reached from a lower start than that of its chain, which stays folded
pub record DropsOld (s : Stored) (n : ℕ) (t : Stored) : Type 0 where
  pub pruned : IsPruned s.links t.links (start_in s)
  pub kept : t ≡ with_links s t.links
  pub count : n + len t.links ≡ len s.links

-- ---- a source and its relays

pub record IsTier (source : Stored) (relays : List Stored) : Type 0 where
  pub is_source : IsSource source
  pub store : IsStore source
  pub each : AllByRecursion (IsNode source) relays

abbrev pub Grow : List Stored → List Stored → Type 0
Grow = AllZip Extends

-- 0 is the source, and the relays are counted from 1
abbrev pub node_at : Stored → List Stored → ℕ → Stored
node_at source relays n = slice_index_or (source ∷ relays) n source

-- what a node has folded
abbrev pub folded_in : Stored → FoldedValue
folded_in s = folded_of s.schema s.folded

-- ---- links of another node

-- after want of memory: as it was, or with the links of the other, of which less is folded than could be
abbrev pub LeavesMerge : Stored → Stored → Stored → Type 0
LeavesMerge s other t = (t ≡ s) ⊎ KeepsLinks (merged s other) t

-- a relay has the links of another node too, and has settled
abbrev pub MergesNodes : Stored → List Stored → ℕ → ℕ → List Stored → Type 0
MergesNodes source relays into from new =
    (merge_answer (node_at source relays into).links (node_at source relays from).links ≡ Ok tt)
    × (new ≡ slice_set relays (into - 1) (after_settle (merged (node_at source relays into) (node_at source relays from))))

-- the same after want of memory
abbrev pub LeavesMergeOfNodes : Stored → List Stored → ℕ → ℕ → List Stored → Type 0
LeavesMergeOfNodes source relays into from new =
    (store : Stored) × LeavesMerge (node_at source relays into) (node_at source relays from) store × (new ≡ slice_set relays (into - 1) store)

-- ---- counts, each of which stays at its last value

abbrev pub no_counts : Taken
no_counts = record { took = 0; held = 0 }

abbrev pub most_counted : ℕ
most_counted = 2 ^ 64 - 1

abbrev pub plus : Taken → Taken → Taken
plus a b = record { took = min (a.took + b.took) most_counted; held = min (a.held + b.held) most_counted }

-- how many of the links a store didn't hold, and how many it did
abbrev pub counts_of : Stored → List Link → Taken
counts_of s ls =
    let took : ℕ = len (taken_all s ls).links - len s.links in
    record { took = took; held = length ls - took }
