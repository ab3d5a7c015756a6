-- A lock is held only where the source gave it.
use Rattle.std.proofs.Common.{◌≡◌, ℕ, Bool, true, false, cond, ◌||◌, ◌&&◌, refl, sym, ap, ◌∙◌}
use Rattle.serde_json.specs.Data.{Data}
use Rattle.ovs_lock_desk.specs.declared.lock_state.LockState.{LockState}
use Rattle.ovs_lock_desk.specs.declared.lock_state.LockState.TheVariants.{Idle, Sent, Waiting, Held}
use Rattle.ovs_lock_desk.specs.declared.lock_state.NextAsk.TheVariants as due
use Rattle.ovs_lock_desk.specs.declared.lock_state.LockEvent.{LockEvent}
use Rattle.ovs_lock_desk.specs.declared.lock_state.LockEvent.TheVariants as events
use Rattle.ovs_lock_desk.specs.declared.lock_state.LockReply.{LockReply}
use Rattle.ovs_lock_desk.specs.declared.lock_state.LockReply.TheVariants as replies
use Rattle.ovs_lock_desk.specs.declared.lock_state.LockVerb.{LockVerb}
use Rattle.ovs_lock_desk.specs.declared.lock_state.LockVerb.TheVariants as verbs
use Rattle.ovs_locks.specs.Lock.{is_free, robbed_first}
use Rattle.ovs_lock_desk.specs.LockState.{is_held, is_sent, waits, is_given, gives, state_locked, state_stolen, state_given_up, state_as_lock, state_sent}
use Rattle.ovs_lock_desk.specs.RelayLock.{RelayLockValue, step, asked_here, left, own_steal_open, answered_so, granted_in, asked_again}

or_false : (b : Bool) → b ≡ true → (b || false) ≡ true
or_false true e = refl
or_false false e = absurd cc

true_or : (b : Bool) → (b || true) ≡ true
true_or true = refl
true_or false = refl

not_after_giving_up : (c : LockState) → is_held (state_given_up c) ≡ false
not_after_giving_up (Idle d) = refl
not_after_giving_up (Sent n) = refl
not_after_giving_up Waiting = refl
not_after_giving_up Held = refl

given_up_held : (b : Bool) (c : LockState) → is_held (cond b (state_given_up c) c) ≡ true → is_held c ≡ true
given_up_held true c e = absurd (let clash = sym e ∙ not_after_giving_up c in cc)
given_up_held false c e = e

as_lock_held : (b : Bool) (c : LockState) → is_held (cond b (state_as_lock c) c) ≡ true → is_held c ≡ true
as_lock_held false c e = e
as_lock_held true (Idle d) e = e
as_lock_held true (Sent n) e = e
as_lock_held true Waiting e = e
as_lock_held true Held e = e

sent_held : (n : ℕ) (c : LockState) → is_held (state_sent n c) ≡ true → is_held c ≡ true
sent_held n (Idle due.Nothing) e = e
sent_held n (Idle due.Lock) e = e
sent_held n (Idle due.Steal) e = e
sent_held n (Idle due.Unlock) e = e
sent_held n (Idle due.UnlockLock) e = e
sent_held n (Idle due.UnlockSteal) e = e
sent_held n (Sent m) e = e
sent_held n Waiting e = e
sent_held n Held e = e

or_left : (a b : Bool) → a ≡ true → (a || b) ≡ true
or_left true b e = refl
or_left false b e = absurd cc

answered_held : (n : ℕ) (reply : LockReply) (b : Bool) (l : RelayLockValue) → is_sent n l.state ≡ b → is_held (cond b (answered_so reply l) l).state ≡ true → (is_held l.state || (is_given reply && is_sent n l.state)) ≡ true
answered_held n replies.Given true l is e = ap (λ (x : Bool). is_held l.state || x) is ∙ true_or (is_held l.state)
answered_held n replies.Waits true l is e = absurd cc
answered_held n replies.Refused true l is e = absurd cc
answered_held n reply false l is e = or_left (is_held l.state) (is_given reply && is_sent n l.state) e

granted_held : (c : LockState) (l : RelayLockValue) → l.state ≡ c → is_held (granted_in c l).state ≡ true → (is_held c || waits c) ≡ true
granted_held (Idle d) l is e = absurd (let clash = sym e ∙ ap is_held is in cc)
granted_held (Sent n) l is e = absurd (let clash = sym e ∙ ap is_held is in cc)
granted_held Waiting l is e = refl
granted_held Held l is e = refl

robbed_held : (b : Bool) (l : RelayLockValue) → is_held l.state ≡ b
    → is_held (cond b (record { lock = robbed_first l.lock; late = l.late; state = asked_again (robbed_first l.lock) }) l).state ≡ true → is_held l.state ≡ true
robbed_held true l is e = is
robbed_held false l is e = e

found_held : (b : Bool) (c : LockState) → is_held (cond b c (Idle due.Lock)) ≡ true → is_held c ≡ true
found_held true c e = e
found_held false c e = absurd cc

pub held_only : (event : LockEvent) (l : RelayLockValue) → is_held (step event l).state ≡ true → (is_held l.state || gives event l.state) ≡ true
held_only (events.Unlocked session) l e = or_false (is_held l.state) (given_up_held (is_free (left session l.state l.lock).queue) l.state e)
held_only (events.Sent n) l e = or_false (is_held l.state) (sent_held n l.state e)
held_only (events.Answered n reply) l e = answered_held n reply (is_sent n l.state) l refl e
held_only events.Granted l e = granted_held l.state l refl e
held_only events.Stolen l e = or_false (is_held l.state) (robbed_held (is_held l.state) l refl e)
held_only events.Lost l e = absurd cc
held_only events.Found l e = or_false (is_held l.state) (found_held (is_free l.lock.queue) l.state e)
held_only (events.Ended session) l e =
    let c = cond (own_steal_open session l) (state_as_lock l.state) l.state in
    or_false (is_held l.state) (as_lock_held (own_steal_open session l) l.state (given_up_held (is_free (left session c l.lock).queue) c e))
held_only (events.AnswerTold session) l e = or_false (is_held l.state) e
held_only (events.NoticeTold session) l e = or_false (is_held l.state) e
held_only (events.AllTold session) l e = or_false (is_held l.state) e

locked_held : (b : Bool) (c : LockState) → is_held c ≡ false → is_held (cond b (state_locked c) c) ≡ false
locked_held false c e = e
locked_held true (Idle d) e = e
locked_held true (Sent n) e = e
locked_held true Waiting e = e
locked_held true Held e = e

stolen_held : (c : LockState) → is_held c ≡ false → is_held (state_stolen c) ≡ false
stolen_held (Idle d) e = refl
stolen_held (Sent n) e = refl
stolen_held Waiting e = refl
stolen_held Held e = e

unlocked_held : (b : Bool) (c : LockState) → is_held c ≡ false → is_held (cond b (state_given_up c) c) ≡ false
unlocked_held true c e = not_after_giving_up c
unlocked_held false c e = e

pub not_by_asking : (has_source : Bool) (session : ℕ) (verb : LockVerb) (id : Data) (l : RelayLockValue) → is_held l.state ≡ false → is_held (asked_here has_source session verb id l).state ≡ false
not_by_asking has_source session verbs.Lock id l e = locked_held has_source l.state e
not_by_asking has_source session verbs.Unlock id l e = unlocked_held (is_free (left session l.state l.lock).queue) l.state e
not_by_asking has_source session verbs.Steal id l e = rw e (stolen_held l.state e)
