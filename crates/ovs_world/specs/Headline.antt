-- What holds of the nodes of a tier at every moment.
use Rattle.std.specs.Prelude.{◌≡◌, ◌↔◌, ℕ, List, length}
use Rattle.ovs_rows.specs.Row.{no_rows}
use Rattle.ovs_links.specs.Epochs.{EpochHistory, IsEpochChain, epochs_of, links_in}
use Rattle.ovs_links.specs.History.{rows_at}
use Rattle.ovs_links.specs.Sets.{Holds, Among}
use Rattle.ovs_links.specs.Store.{Stored, tables_of, rows_of}
use Rattle.ovs_links.specs.declared.link.Link.{Link}
use Rattle.ovs_source.specs.Commits.{IsSourceOf}
use Rattle.ovs_world.specs.Nodes.{IsSettled, node_at}

-- settled, it has the source's database after the longest unbroken chain of the source's links that it holds: of those of the
-- latest epoch whose first link it holds
abbrev pub HasSourceDatabase : Stored → EpochHistory → Stored → Type 0
HasSourceDatabase source h s =
    IsSettled s → (chain : IsEpochChain (tables_of source) (Holds s.links) (epochs_of h) s.folded) × (rows_of s ≡ rows_at no_rows chain.epoch.commits (length s.folded))

-- settled, the two have the same database if they hold the same links
abbrev pub HaveSameDatabase : Stored → Stored → Type 0
HaveSameDatabase s t = IsSettled s → IsSettled t → ((l : Link) → Holds s.links l ↔ Holds t.links l) → rows_of s ≡ rows_of t

-- the source's links are those of a history, each node holds links of it alone, and its database is decided by which it
-- holds: that of the source after the longest unbroken chain of them, versions included
pub record IsFaithful (source : Stored) (relays : List Stored) : Type 0 where
  pub history : EpochHistory
  pub of_source : IsSourceOf source history
  pub within : (n : ℕ) (l : Link) → Holds (node_at source relays n).links l → Among (links_in (tables_of source) (epochs_of history)) l
  pub longest : (n : ℕ) → HasSourceDatabase source history (node_at source relays n)
  pub same : (m n : ℕ) → HaveSameDatabase (node_at source relays m) (node_at source relays n)
