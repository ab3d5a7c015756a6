-- What a session is owed once it was told all, and once it ended: nothing.
use Rattle.std.proofs.Common.{◌≡◌, ℕ, List, [], Bool, true, false, refl, ap, ◌∙◌}
use Rattle.std.specs.Prelude.{not, map}
use Rattle.ovs_locks.specs.ByName.{gathered}
use Rattle.ovs_locks.specs.Lock.{stands}
use Rattle.ovs_locks.proofs.Gathering.{gathered_changed, gathers_nothing, changed_gone}
use Rattle.ovs_locks.proofs.Tables.{told_all}
use Rattle.ovs_lock_desk.specs.PendingSteal.{is_due_late}
use Rattle.ovs_lock_desk.specs.RelayLock.{RelayLockValue, no_relay_lock, is_desk_idle, step}
use Rattle.ovs_lock_desk.specs.LockDesk.{RelayLocks, IsGone, stepped, answers_here, answers_to, notices_here, notices_to, open_here, owed_to}
use Rattle.ovs_lock_desk.specs.declared.lock_state.LockEvent.{LockEvent}
use Rattle.ovs_lock_desk.specs.declared.lock_state.LockEvent.TheVariants as events
use Rattle.ovs_lock_desk.specs.declared.pending_steal.PendingSteal.{PendingSteal}
use Rattle.ovs_lock_desk.proofs.DeskOwed.{answers_idle, notices_idle, open_idle, nothing_told, answers_ended, open_ended, stands_ended, filter_none}

silent_after : {X : Type 0} (g : List ℕ → RelayLockValue → List X) → ((name : List ℕ) (l : RelayLockValue) → is_desk_idle l ≡ true → g name l ≡ [])
    → (event : LockEvent) → ((name : List ℕ) (l : RelayLockValue) → g name (step event l) ≡ []) → (es : RelayLocks) → gathered g (stepped event es) ≡ []
silent_after {X} g none event nothing es =
    gathered_changed is_desk_idle no_relay_lock g none (step event) (λ name l. []) nothing es ∙ gathers_nothing es

due_or_not : (session : ℕ) (e : PendingSteal) → not (is_due_late session e) ≡ true → is_due_late session e ≡ false
due_or_not session e n = by (is_due_late session e) n
  where
    by : (b : Bool) → not b ≡ true → b ≡ false
    by true n = absurd cc
    by false n = refl

answers_all_told : (session : ℕ) (name : List ℕ) (l : RelayLockValue) → answers_here session name (step (events.AllTold session) l) ≡ []
answers_all_told session name l = ap (map (λ late. (name, late))) (filter_none (is_due_late session) (λ e. not (is_due_late session e)) (λ e n. due_or_not session e n) l.late)

pub nothing_owed : (session : ℕ) (es : RelayLocks) → owed_to session (stepped (events.AllTold session) es) ≡ []
nothing_owed session es =
    let answers : answers_to session (stepped (events.AllTold session) es) ≡ [] =
    silent_after (answers_here session) (answers_idle session) (events.AllTold session) (λ name l. answers_all_told session name l) es in
    let notices : notices_to session (stepped (events.AllTold session) es) ≡ [] =
    silent_after (notices_here session) (notices_idle session) (events.AllTold session) (λ name l. told_all session name l.lock) es in
    rw (answers, notices) refl

pub all_gone : (session : ℕ) (es : RelayLocks) → IsGone session (stepped (events.Ended session) es)
all_gone session es = record {
  stands = changed_gone is_desk_idle no_relay_lock (λ l. stands session l.lock) (step (events.Ended session)) (λ l. stands_ended session l) es;
  answers = silent_after (answers_here session) (answers_idle session) (events.Ended session) (λ name l. answers_ended session l name) es;
  notices = silent_after (notices_here session) (notices_idle session) (events.Ended session) (λ name l. nothing_told session name (step (events.Ended session) l) (stands_ended session l)) es;
  steals = silent_after (open_here session) (open_idle session) (events.Ended session) (λ name l. open_ended session l name) es;
}
