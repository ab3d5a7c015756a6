-- Events that happen one after another.
use Rattle.std.proofs.Common.{◌≡◌, ◌<◌, ℕ, zero, suc, List, [], ◌∷◌, ◌++◌, Ok, length, take, drop, replicate, get_or, refl, ap, subst, arith}
use Rattle.ovs_types.specs.Schema.{SchemaValue}
use Rattle.ovs_world.specs.Nodes.{IsSettled}
use Rattle.ovs_world.specs.Steps.{Steps, IsRun}
use Rattle.ovs_world.specs.Worlds.{WorldValue, AreSettled, new_world, empty_store}
use Rattle.ovs_world.specs.declared.event.Event.{Event}
use Rattle.ovs_world.specs.declared.event.Reply.{Reply}
use Rattle.ovs_world.proofs.Settled.{none_settled}

pub run_on : (w : WorldValue) (es : List Event) (m : WorldValue) (e : Event) (r : Reply) (v : WorldValue) → IsRun w es m → Steps m e (Ok r) v → IsRun w (es ++ e ∷ []) v
run_on w [] m e r v is step = (v, r, subst (λ (x : WorldValue). Steps x e (Ok r) v) is step, refl)
run_on w (x ∷ xs) m e r v is step = (is.0, is.1, is.2, run_on is.0 xs m e r v is.3 step)

-- the list is the events before one, this one, and those behind it
pub at_place : (es : List Event) (i : ℕ) (e : Event) → i < length es → e ≡ get_or es i e → take i es ++ e ∷ drop (suc i) es ≡ es
at_place [] i e lt is = absurd (omega (arith, lt))
at_place (x ∷ xs) zero e lt is = ap (λ (y : Event). y ∷ xs) is
at_place (x ∷ xs) (suc i) e lt is = ap (λ (ys : List Event). x ∷ ys) (at_place xs i e (omega (arith, lt)) is)

-- the nodes of a new world have no link, and are settled
pub new_settled : (schema : SchemaValue) (relays : ℕ) → AreSettled (new_world schema relays)
new_settled schema relays zero = none_settled schema
new_settled schema relays (suc n) = at relays n
  where
    at : (k n : ℕ) → IsSettled (get_or (replicate k (empty_store schema)) n (empty_store schema))
    at zero n = none_settled schema
    at (suc k) zero = none_settled schema
    at (suc k) (suc n) = at k n
