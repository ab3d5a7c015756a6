-- What a refusal of the source leaves: no steal waits for its answer, and the session of the one that did stands in the lists no longer.
use Rattle.std.proofs.Common.{◌≡◌, ℕ, List, [], ◌∷◌, Bool, true, false, cond, ◌||◌, ◌&&◌, Option, Some, None, refl, sym, subst}
use Rattle.std.specs.List.{list_any}
use Rattle.ovs_locks.specs.Lock.{stands, forgotten}
use Rattle.ovs_locks.proofs.Tables.{none_left}
use Rattle.ovs_lock_desk.specs.declared.lock_state.LockEvent.TheVariants as events
use Rattle.ovs_lock_desk.specs.declared.lock_state.LockReply.TheVariants as replies
use Rattle.ovs_lock_desk.specs.declared.pending_steal.PendingSteal.{PendingSteal}
use Rattle.ovs_lock_desk.specs.declared.pending_steal.StealOutcome.{StealOutcome}
use Rattle.ovs_lock_desk.specs.declared.pending_steal.StealOutcome.TheVariants as outcomes
use Rattle.ovs_lock_desk.specs.LockState.{is_sent}
use Rattle.ovs_lock_desk.specs.PendingSteal.{is_open, is_of, is_own_open, is_due_late, settled, settled_one, open_session}
use Rattle.ovs_lock_desk.specs.RelayLock.{RelayLockValue, IsStolenByOne, steal_open, own_steal_open, step, forgotten_by}
use Rattle.ovs_lock_desk.proofs.Concerned.{both_not}
use Rattle.ovs_lock_desk.proofs.Settled.{or_right}

none_open : (outcome : StealOutcome) (late : List PendingSteal) → list_any is_open (settled outcome late) ≡ false
none_open outcome [] = refl
none_open outcome (e ∷ late) = both_not (is_open (settled_one outcome e)) (list_any is_open (settled outcome late)) (by (is_open e) refl) (none_open outcome late)
  where
    by : (b : Bool) → is_open e ≡ b → is_open (cond b (record { session = e.session; id = e.id; outcome = Some outcome }) e) ≡ false
    by true is = refl
    by false is = is

now_due : (outcome : StealOutcome) (session : ℕ) (late : List PendingSteal) → list_any (is_own_open session) late ≡ true → list_any (is_due_late session) (settled outcome late) ≡ true
now_due outcome session [] own = absurd cc
now_due outcome session (e ∷ late) own = by (is_open e) (is_of session e) refl own (now_due outcome session late)
  where
    by : (b c : Bool) → is_of session e ≡ c → ((b && c) || list_any (is_own_open session) late) ≡ true → (list_any (is_own_open session) late ≡ true → list_any (is_due_late session) (settled outcome late) ≡ true)
        → list_any (is_due_late session) (cond b (record { session = e.session; id = e.id; outcome = Some outcome }) e ∷ settled outcome late) ≡ true
    by true true its own rest = rw its refl
    by true false its own rest = rw its (rest own)
    by false c its own rest = or_right (is_due_late session e) (list_any (is_due_late session) (settled outcome late)) (rest own)

pub none_waits : (n : ℕ) (l : RelayLockValue) → is_sent n l.state ≡ true → steal_open (step (events.Answered n replies.Refused) l) ≡ false
none_waits n l is = rw is (none_open outcomes.Refused l.late)

pub answered_and_gone : (n session : ℕ) (l : RelayLockValue) → IsStolenByOne l → is_sent n l.state ≡ true → own_steal_open session l ≡ true
    → (list_any (is_due_late session) (step (events.Answered n replies.Refused) l).late ≡ true) × (stands session (step (events.Answered n replies.Refused) l).lock ≡ false)
answered_and_gone n session l one is own = rw is (now_due outcomes.Refused session l.late own, gone (open_session l.late) (one session own))
  where
    gone : (o : Option ℕ) → o ≡ Some session → stands session (forgotten_by o l.lock) ≡ false
    gone None e = absurd cc
    gone (Some x) e =
        let same : x ≡ session = cc in
        subst (λ (y : ℕ). stands session (forgotten y l.lock) ≡ false) (sym same) (rw (none_left session l.lock.queue, none_left session l.lock.stolen) refl)
