-- Locks of a desk by name: what is first, and what an event leaves.
use Rattle.std.proofs.Common.{◌≡◌, ℕ, List, [], ◌∷◌, ◌++◌, true, Some, None, refl, ap, ◌∙◌}
use Rattle.std.specs.Prelude.{map, filter, slice_get}
use Rattle.std.proofs.lemmas.List.{map-append}
use Rattle.ovs_lock_desk.specs.declared.lock_state.LockEvent.{LockEvent}
use Rattle.ovs_lock_desk.specs.declared.lock_state.LockEvent.TheVariants as events
use Rattle.ovs_lock_desk.specs.PendingSteal.{is_due_late}
use Rattle.ovs_lock_desk.specs.LockDesk.{RelayLocks, answers_here, answers_to, answers_told, told_of}
use Rattle.ovs_lock_desk.specs.declared.pending_steal.PendingSteal.{PendingSteal}
use Rattle.ovs_lock_desk.specs.declared.desk_notice.DeskNotice.{DeskNotice}
use Rattle.ovs_lock_desk.specs.RelayLock.{RelayLockValue, no_relay_lock, is_desk_idle, step}

-- ---- what is first

-- the first of what a lock has, and of what the others have
pub first_here : {X : Type 0} (xs ys : List X) (x : X) → Some x ≡ slice_get xs 0 → Some x ≡ slice_get (xs ++ ys) 0
first_here [] ys x e = absurd cc
first_here (z ∷ xs) ys x e = e

pub first_mapped : {X Y : Type 0} (f : X → Y) (xs : List X) (x : X) → Some x ≡ slice_get xs 0 → Some (f x) ≡ slice_get (map f xs) 0
first_mapped f [] x e = absurd cc
first_mapped f (z ∷ xs) x e = (let same : x ≡ z = cc in ap (λ y. Some (f y)) same)

pub none_first : {X : Type 0} (xs : List X) → None ≡ slice_get xs 0 → xs ≡ []
none_first [] e = refl
none_first (z ∷ xs) e = absurd cc

-- the answers of one lock, as they are told, before those of the others
pub told_step : (session : ℕ) (name : List ℕ) (l : RelayLockValue) (es : RelayLocks)
    → answers_told session ((name, l) ∷ es) ≡ map told_of (filter (is_due_late session) l.late) ++ answers_told session es
told_step session name l es =
    map-append (λ (a : List ℕ × PendingSteal). told_of a.1) (answers_here session name l) (answers_to session es)
    ∙ ap (λ (xs : List DeskNotice). xs ++ answers_told session es) (each (filter (is_due_late session) l.late))
  where
    each : (late : List PendingSteal) → map (λ (a : List ℕ × PendingSteal). told_of a.1) (map (λ (e : PendingSteal). let pair : List ℕ × PendingSteal = (name, e) in pair) late) ≡ map told_of late
    each [] = refl
    each (e ∷ late) = ap (λ (xs : List DeskNotice). told_of e ∷ xs) (each late)

-- an event makes nothing of a lock that nobody asked for
pub still_idle : (event : LockEvent) → is_desk_idle (step event no_relay_lock) ≡ true
still_idle (events.Unlocked session) = refl
still_idle (events.Sent n) = refl
still_idle (events.Answered n reply) = refl
still_idle events.Granted = refl
still_idle events.Stolen = refl
still_idle events.Lost = refl
still_idle events.Found = refl
still_idle (events.Ended session) = refl
still_idle (events.AnswerTold session) = refl
still_idle (events.NoticeTold session) = refl
still_idle (events.AllTold session) = refl
