-- A relay begins anew.
use Rattle.std.specs.List.{AllByRecursion}
use Rattle.std.proofs.Common.{◌≡◌, ◌≢◌, ◌≤◌, ◌<◌, ◌-◌, ◌==◌, ◌||◌, if◌then◌else◌, ℕ, zero, suc, Bool, true, false, Option, Some, None, List, [], ◌∷◌, ◌++◌, length, map, take, drop, get_or, set, slice_set, refl, sym, ◌∙◌, ap, subst, arith, eq-eqb}
use Rattle.std.proofs.lemmas.List.{length-set}
use Rattle.ovs_links.specs.Store.{Stored}
use Rattle.ovs_world.specs.Leading.{IsLed}
use Rattle.ovs_world.specs.Nodes.{IsNode}
use Rattle.ovs_world.specs.Worlds.{IsOpen, IsWorld, cut_of, empty_store}
use Rattle.ovs_world.specs.declared.sim_session.SimSession.{SimSession}
use Rattle.ovs_world.proofs.Faithful.{empty_is_store, none_held}
use Rattle.ovs_world.proofs.Opened.{other_node}
use Rattle.ovs_world.proofs.Scenes.{tier_set}

empty_node : (source : Stored) → IsNode source (empty_store source.schema)
empty_node source = record { schema = refl; store = empty_is_store source.schema; within = λ l held. absurd (none_held l held) }

second_false : (a b : Bool) → a || b ≡ false → b ≡ false
second_false true b e = absurd (let f : true ≡ false = e in cc)
second_false false b e = e

true_false : true ≡ false → ⊥
true_false e = cc

module _ (source : Stored) (ss : List Stored) (r : ℕ) (place : (0 < r) × (r ≤ length ss)) where
  abbrev anew : List Stored
  anew = slice_set ss (r - 1) (empty_store source.schema)

  open_anew : (o : Option SimSession) → IsOpen source ss o → IsOpen source anew (cut_of r o)
  open_anew None is = is
  open_anew (Some s) is = by (s.relay == r || s.upstream == r) refl
    where
      by : (b : Bool) → s.relay == r || s.upstream == r ≡ b → IsOpen source anew (if b then None else Some s)
      by true e = tt
      by false e =
          let other : s.upstream ≢ r = λ f. true_false (sym (eq-eqb s.upstream r f) ∙ second_false (s.relay == r) (s.upstream == r) e) in
          let long : length anew ≡ length ss = length-set ss (r - 1) (empty_store source.schema) in
          let relay = is.0.relay in
          let upstream = is.0.upstream in
          (record { relay = (relay.0, omega (arith, relay.1, long)); upstream = omega (arith, upstream, long); led = subst (λ (n : Stored). IsLed source n s) (other_node source ss r (empty_store source.schema) place.0 s.upstream other) is.0.led }, is.1)

  sessions_anew : (os : List (Option SimSession)) → AllByRecursion (IsOpen source ss) os → AllByRecursion (IsOpen source anew) (map (cut_of r) os)
  sessions_anew [] a = tt
  sessions_anew (o ∷ os) a = (open_anew o a.0, sessions_anew os a.1)

  pub world_restarted : (fresh : ℕ) (os : List (Option SimSession)) → IsWorld (record { source = source; fresh = fresh; relays = ss; sessions = os })
      → IsWorld (record { source = source; fresh = fresh; relays = anew; sessions = map (cut_of r) os })
  world_restarted fresh os w = record { tier = tier_set source ss (r - 1) (empty_store source.schema) w.tier (empty_node source); sessions = sessions_anew os w.sessions }

-- one more of them is cut
pub one_cut : (r : ℕ) (os : List (Option SimSession)) (i : ℕ) (d : Option SimSession) → i < length os
    → set (map (cut_of r) (take i os) ++ drop i os) i (cut_of r (get_or (map (cut_of r) (take i os) ++ drop i os) i d)) ≡ map (cut_of r) (take (suc i) os) ++ drop (suc i) os
one_cut r [] i d h = absurd (omega (arith, h))
one_cut r (o ∷ os) zero d h = refl
one_cut r (o ∷ os) (suc i) d h = ap (λ (l : List (Option SimSession)). cut_of r o ∷ l) (one_cut r os i d (omega (arith, h)))
