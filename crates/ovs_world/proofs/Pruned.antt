-- A relay settles, and drops its old links.
use Rattle.std.proofs.Common.{◌≡◌, ◌≢◌, ◌<◌, ◌≤◌, ◌-◌, ⊎_elim, ℕ, List, Option, Some, None, length, slice_set, sym, ◌∙◌, ap, subst, arith}
use Rattle.std.proofs.lemmas.Bool.{cases_eq}
use Rattle.std.proofs.lemmas.List.{length-set, get_or-set_same}
use Rattle.ovs_links.specs.Chains.{GrowsInto}
use Rattle.ovs_links.specs.Settling.{KeepsLinks, after_settle}
use Rattle.ovs_links.specs.Sets.{Holds}
use Rattle.ovs_links.specs.Store.{Stored, IsStore}
use Rattle.ovs_world.specs.Leading.{IsLed}
use Rattle.ovs_world.specs.Nodes.{IsNode, IsTier, DropsOld, node_at}
use Rattle.ovs_world.specs.Worlds.{IsOpen, IsWorld}
use Rattle.ovs_world.specs.declared.sim_session.SimSession.{SimSession}
use Rattle.ovs_world.proofs.Led.{led_goes_on}
use Rattle.ovs_world.proofs.Opened.{all_weaker, other_node, relay_at}
use Rattle.ovs_world.proofs.Scenes.{node_of, tier_set}

-- ---- one store

-- what is left of a node's links are the source's
pub node_dropped : (source s mid t : Stored) (n : ℕ) → mid ≡ after_settle s → DropsOld mid n t → IsStore t → IsNode source s → IsNode source t
node_dropped source s mid t n settled drops store node = record {
  schema = ap (λ (x : Stored). x.schema) drops.kept ∙ ap (λ (x : Stored). x.schema) settled ∙ node.schema;
  store = store;
  within = λ l h. node.within l (subst (λ (x : Stored). Holds x.links l) settled ((drops.pruned l).0 h).0);
}

-- and what it has folded goes on
pub grows_dropped : (s mid t : Stored) (n : ℕ) → KeepsLinks s mid → DropsOld mid n t → GrowsInto s.folded t.folded
grows_dropped s mid t n keeps drops = subst (GrowsInto s.folded) (sym (ap (λ (x : Stored). x.folded) drops.kept)) keeps.grows

-- ---- a world in which a relay has another store, whose chain goes on

module _ (source : Stored) (ss : List Stored) (r : ℕ) (place : (0 < r) × (r ≤ length ss)) (s t : Stored) (s_is : s ≡ node_at source ss r)
    (tier : IsTier source ss) (node : IsNode source s → IsNode source t) (grows : GrowsInto s.folded t.folded) where
  abbrev after : List Stored
  after = slice_set ss (r - 1) t

  is_node : IsNode source t
  is_node = node (subst (IsNode source) (sym s_is) (node_of source ss tier r))

  node_is : node_at source after r ≡ t
  node_is =
      let long : length after ≡ length ss = length-set ss (r - 1) t in
      let first = place.0 in
      let last = place.1 in
      sym (relay_at source after r t place.0 (omega (arith, last, long))) ∙ get_or-set_same ss (r - 1) t t (omega (arith, first, last))

  led_after : (x : SimSession) → IsLed source (node_at source ss x.upstream) x → IsLed source (node_at source after x.upstream) x
  led_after x led = ⊎_elim
      (λ (same : x.upstream ≡ r).
      (let before : IsLed source s x = subst (λ (n : Stored). IsLed source n x) (ap (node_at source ss) same ∙ sym s_is) led in
      let was : IsNode source s = subst (IsNode source) (sym s_is) (node_of source ss tier r) in
      subst (λ (n : Stored). IsLed source n x) (sym (ap (node_at source after) same ∙ node_is))
      (led_goes_on source s t x (is_node.schema ∙ sym was.schema) is_node.store grows before)))
      (λ (other : x.upstream ≢ r). subst (λ (n : Stored). IsLed source n x) (other_node source ss r t place.0 x.upstream other) led) (cases_eq x.upstream r)

  open_after : (o : Option SimSession) → IsOpen source ss o → IsOpen source after o
  open_after None is = is
  open_after (Some x) is =
      let long : length after ≡ length ss = length-set ss (r - 1) t in
      let relay = is.0.relay in
      let upstream = is.0.upstream in
      (record { relay = (relay.0, omega (arith, relay.1, long)); upstream = omega (arith, upstream, long); led = led_after x is.0.led }, is.1)

  pub tier_after : IsTier source after
  tier_after = tier_set source ss (r - 1) t tier is_node

  pub world_after : (fresh : ℕ) (os : List (Option SimSession)) → IsWorld (record { source = source; fresh = fresh; relays = ss; sessions = os })
      → IsWorld (record { source = source; fresh = fresh; relays = after; sessions = os })
  world_after fresh os w = record { tier = tier_after; sessions = all_weaker (IsOpen source ss) (IsOpen source after) os open_after w.sessions }
