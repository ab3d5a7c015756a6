-- A relay gets the links of another node.
use Rattle.std.proofs.Common.{◌≡◌, ◌≢◌, ◌<◌, ◌≤◌, ◌-◌, ⊎_elim, ℕ, zero, suc, Ok, List, [], ◌∷◌, ◌++◌, Option, length, take, drop, set, slice_set, get_or, refl, sym, ◌∙◌, ap, subst, arith}
use Rattle.std.proofs.lemmas.List.{take-append-drop, get_or-take}
use Rattle.std.specs.FinMap.{len}
use Rattle.ovs_types.specs.Schema.{SchemaValue}
use Rattle.ovs_links.specs.Answers.{AreOfOneSource}
use Rattle.ovs_links.specs.Join.{Agree, join}
use Rattle.ovs_links.specs.Outcomes.{with_links, merge_answer, merged}
use Rattle.ovs_links.specs.Settling.{KeepsLinks, after_settle}
use Rattle.ovs_links.specs.Sets.{Holds}
use Rattle.ovs_links.specs.Store.{Stored, IsStore, tables_of, max_links}
use Rattle.ovs_links.specs.declared.link.Link.{Link}
use Rattle.ovs_links.proofs.JoinLemmas.{in_join, join_left, join_is_set}
use Rattle.ovs_source.specs.Commits.{IsSource}
use Rattle.ovs_world.specs.Nodes.{IsNode, IsTier, Extends, Grow, LeavesMerge, MergesNodes, LeavesMergeOfNodes, node_at}
use Rattle.ovs_world.specs.Worlds.{IsWorld}
use Rattle.ovs_world.specs.declared.sim_session.SimSession.{SimSession}
use Rattle.ovs_world.proofs.Counting.{few_held}
use Rattle.ovs_world.proofs.Held.{node_settled}
use Rattle.ovs_world.proofs.Opened.{sessions_grow, relay_at}
use Rattle.ovs_world.proofs.Scenes.{node_of, tier_set, grow_set}

module _ (source s t : Stored) (node : IsNode source s) (other : IsNode source t) where
  joined_within : (l : Link) → Holds (join s.links t.links) l → Holds source.links l
  joined_within l h = ⊎_elim (λ (a : Holds s.links l). node.within l a) (λ (b : Holds t.links l). other.within l b) (in_join s.links t.links l h)

  -- the links are of one history, so none contradicts another
  pub one_source : IsSource source → AreOfOneSource (tables_of s) (Holds s.links) (Holds t.links)
  one_source is = subst (λ (v : SchemaValue). AreOfOneSource v.description.tables (Holds s.links) (Holds t.links)) (sym node.schema) (
    is.history,
    is.is.history,
    λ l h. (is.is.held l).0 (node.within l h),
    λ l h. (is.is.held l).0 (other.within l h),
  )

  -- and there is room for all of them
  pub room : IsStore source → Agree s.links t.links → max_links < len (join s.links t.links) → ⊥
  room store agree full =
      let few = few_held (join s.links t.links) source.links (join_is_set s.links t.links node.store.set other.store.set agree).keyed store.set.keyed joined_within in
      let most = store.few in
      omega (arith, few, most, full)

  pub merged_node : (new : Stored) → KeepsLinks (with_links s (join s.links t.links)) new → IsStore new → IsNode source new
  merged_node new keeps is_store = node_settled source (with_links s (join s.links t.links)) new node.schema joined_within keeps is_store

  pub merged_extends : (new : Stored) → KeepsLinks (with_links s (join s.links t.links)) new → IsStore new → Extends s new
  merged_extends new keeps is_store = record {
    schema = keeps.schema;
    store = is_store;
    keeps = λ l h. subst (λ (m : _). Holds m l) (sym keeps.links) (join_left s.links t.links l h);
    grows = keeps.grows;
  }

-- ---- two nodes of a tier

set_low : (xs : List Stored) (k i : ℕ) (v : Stored) → i < k → set (take k xs) i v ++ drop k xs ≡ set xs i v
set_low xs zero i v lt = absurd (omega (arith, lt))
set_low [] (suc k) i v lt = refl
set_low (x ∷ xs) (suc k) zero v lt = ap (λ (l : List Stored). v ∷ l) (take-append-drop k xs)
set_low (x ∷ xs) (suc k) (suc i) v lt = ap (λ (l : List Stored). x ∷ l) (set_low xs k i v (omega (arith, lt)))

set_high : (xs : List Stored) (k : ℕ) (v : Stored) → take k xs ++ set (drop k xs) 0 v ≡ set xs k v
set_high xs zero v = refl
set_high [] (suc k) v = refl
set_high (x ∷ xs) (suc k) v = ap (λ (l : List Stored). x ∷ l) (set_high xs k v)

first_left : (xs : List Stored) (k : ℕ) (d : Stored) → get_or (drop k xs) 0 d ≡ get_or xs k d
first_left xs zero d = refl
first_left [] (suc k) d = refl
first_left (x ∷ xs) (suc k) d = first_left xs k d

abbrev pub ArePlaces : List Stored → ℕ → ℕ → Type 0
ArePlaces relays into from = (0 < into) × (into ≤ length relays) × (from ≤ length relays) × (into ≢ from)

module _ (source : Stored) (relays : List Stored) (into from : ℕ) (places : ArePlaces relays into from) where
  -- where the relay's store lies in the first part of the relays, and the other's is the first of the second
  pub low_is : (low : List Stored) (d : Stored) → into < from → low ≡ take (from - 1) relays → get_or low (into - 1) d ≡ node_at source relays into
  low_is low d lt is =
      let first = places.0 in
      let under : into - 1 < from - 1 = omega (arith, lt, first) in
      ap (λ (l : List Stored). get_or l (into - 1) d) is ∙ get_or-take (from - 1) relays (into - 1) d under ∙ relay_at source relays into d places.0 places.1

  pub high_is : (high : List Stored) (d : Stored) → into < from → high ≡ drop (from - 1) relays → get_or high 0 d ≡ node_at source relays from
  high_is high d lt is = ap (λ (l : List Stored). get_or l 0 d) is ∙ first_left relays (from - 1) d ∙ relay_at source relays from d (omega (arith, lt)) places.2

  pub low_after : (low high : List Stored) (new : Stored) → into < from → low ≡ take (from - 1) relays → high ≡ drop (from - 1) relays → slice_set low (into - 1) new ++ high ≡ slice_set relays (into - 1) new
  low_after low high new lt a b =
      let first = places.0 in
      let under : into - 1 < from - 1 = omega (arith, lt, first) in
      ap (λ (l : List Stored). slice_set l (into - 1) new ++ high) a ∙ ap (λ (l : List Stored). slice_set (take (from - 1) relays) (into - 1) new ++ l) b ∙ set_low relays (from - 1) (into - 1) new under

  -- where it is the first of the second part, and the other's lies in the first
  pub first_is : (high : List Stored) (d : Stored) → high ≡ drop (into - 1) relays → get_or high 0 d ≡ node_at source relays into
  first_is high d is = ap (λ (l : List Stored). get_or l 0 d) is ∙ first_left relays (into - 1) d ∙ relay_at source relays into d places.0 places.1

  pub other_is : (low : List Stored) (d : Stored) → 0 < from → from ≤ into → low ≡ take (into - 1) relays → get_or low (from - 1) d ≡ node_at source relays from
  other_is low d some le is =
      let apart = places.3 in
      let under : from - 1 < into - 1 = omega (arith, some, le, apart) in
      ap (λ (l : List Stored). get_or l (from - 1) d) is ∙ get_or-take (into - 1) relays (from - 1) d under ∙ relay_at source relays from d some places.2

  pub high_after : (low high : List Stored) (new : Stored) → low ≡ take (into - 1) relays → high ≡ drop (into - 1) relays → low ++ slice_set high 0 new ≡ slice_set relays (into - 1) new
  high_after low high new a b =
      ap (λ (l : List Stored). l ++ slice_set high 0 new) a ∙ ap (λ (l : List Stored). take (into - 1) relays ++ slice_set l 0 new) b ∙ set_high relays (into - 1) new

  module _ (tier : IsTier source relays) (s o : Stored) (s_is : s ≡ node_at source relays into) (o_is : o ≡ node_at source relays from) where
    is_s : IsNode source s
    is_s = subst (IsNode source) (sym s_is) (node_of source relays tier into)

    is_o : IsNode source o
    is_o = subst (IsNode source) (sym o_is) (node_of source relays tier from)

    pub both_nodes : (x : Stored) × IsSource x × IsStore x × IsNode x s × IsNode x o
    both_nodes = (source, tier.is_source, tier.store, is_s, is_o)

    module _ (new : Stored) (after : List Stored) (after_is : after ≡ slice_set relays (into - 1) new) where
      pub nodes_merged : (merge_answer s.links o.links ≡ Ok tt) × (new ≡ after_settle (merged s o)) → MergesNodes source relays into from after
      nodes_merged m =
          let P : Stored → Stored → Type 0 = λ x y. (merge_answer x.links y.links ≡ Ok tt) × (after ≡ slice_set relays (into - 1) (after_settle (merged x y))) in
          subst (λ (y : Stored). P (node_at source relays into) y) o_is (subst (λ (x : Stored). P x o) s_is (m.0, after_is ∙ ap (slice_set relays (into - 1)) m.1))

      pub nodes_left : LeavesMerge s o new → LeavesMergeOfNodes source relays into from after
      nodes_left l = (
        new,
        subst (λ (y : Stored). LeavesMerge (node_at source relays into) y new) o_is (subst (λ (x : Stored). LeavesMerge x o new) s_is l),
        after_is,
      )

      pub tier_merged : ((x : Stored) → IsNode x s → IsNode x o → IsNode x new) → IsTier source after
      tier_merged node = subst (IsTier source) (sym after_is) (tier_set source relays (into - 1) new tier (node source is_s is_o))

      pub grow_merged : Extends s new → Grow relays after
      grow_merged more = subst (Grow relays) (sym after_is) (grow_set source relays (into - 1) s new tier
          (subst (λ (x : Stored). Extends x new) (s_is ∙ sym (relay_at source relays into s places.0 places.1)) more))

-- some relays have more, and the sessions are as they were
pub world_grown : (source : Stored) (fresh : ℕ) (ss ts us : List Stored) (os : List (Option SimSession)) → IsWorld (record { source = source; fresh = fresh; relays = ss; sessions = os })
    → IsTier source ts → Grow ss ts → us ≡ ts → IsWorld (record { source = source; fresh = fresh; relays = us; sessions = os })
world_grown source fresh ss ts us os w tier grow us_is =
    subst (λ (x : List Stored). IsWorld (record { source = source; fresh = fresh; relays = x; sessions = os })) (sym us_is)
    (record { tier = tier; sessions = sessions_grow source ss ts os tier grow w.sessions })
