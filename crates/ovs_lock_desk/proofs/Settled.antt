-- For a lock for which nobody asks nothing is asked of the source, whatever happens.
use Rattle.std.proofs.Common.{◌≡◌, ℕ, List, [], ◌∷◌, Bool, true, false, cond, ◌||◌, ◌&&◌, refl, sym, ap, subst, ◌∙◌}
use Rattle.std.specs.Prelude.{◌≢◌, ◌==◌, not, filter}
use Rattle.std.proofs.lemmas.Bool.{eqb-true, eqb-false, eq-eqb}
use Rattle.std.specs.List.{list_any}
use Rattle.std.proofs.lemmas.List.Folds.{list_any-append}
use Rattle.serde_json.specs.Data.{Data}
use Rattle.ovs_locks.specs.declared.waiter.Waiter.{Waiter}
use Rattle.ovs_locks.specs.Lock.{LockValue, is_in, is_free, is_first, is_who, waiter, stands, put_first, without, forgotten, dropped, granted, granted_first, robbed_first, heard, told_one, after_one, sessions}
use Rattle.ovs_locks.specs.ByName.{Ascends}
use Rattle.ovs_locks.proofs.Idle.{not_free, not_free_stolen}
use Rattle.ovs_locks.proofs.NextNotice.{one_heard}
use Rattle.ovs_lock_desk.specs.declared.lock_state.LockState.{LockState}
use Rattle.ovs_lock_desk.specs.declared.lock_state.LockState.TheVariants.{Idle, Sent, Waiting, Held}
use Rattle.ovs_lock_desk.specs.declared.lock_state.NextAsk.TheVariants as due
use Rattle.ovs_lock_desk.specs.declared.lock_state.LockEvent.{LockEvent}
use Rattle.ovs_lock_desk.specs.declared.lock_state.LockEvent.TheVariants as events
use Rattle.ovs_lock_desk.specs.declared.lock_state.LockReply.{LockReply}
use Rattle.ovs_lock_desk.specs.declared.lock_state.LockReply.TheVariants as replies
use Rattle.ovs_lock_desk.specs.declared.lock_state.LockVerb.{LockVerb}
use Rattle.ovs_lock_desk.specs.declared.lock_state.LockVerb.TheVariants as verbs
use Rattle.ovs_lock_desk.specs.declared.pending_steal.PendingSteal.{PendingSteal}
use Rattle.ovs_lock_desk.specs.LockState.{is_held, is_sent, asks_nothing, is_steal_due, state_locked, state_given_up, state_as_lock, state_sent}
use Rattle.ovs_lock_desk.specs.PendingSteal.{is_of, is_open, is_own_open, is_due_late, late_of, settled, without_one, without_late}
use Rattle.ovs_lock_desk.specs.LockDesk.{RelayLocks, ChangesAt, relay_lock_at, stepped}
use Rattle.ovs_lock_desk.specs.UpwardTable.{AreSettled}
use Rattle.ovs_lock_desk.specs.RelayLock.{RelayLockValue, no_relay_lock, is_desk_idle, IsSettled, MayHappen, stealer_in, concerns, steal_open, own_steal_open, asked_here, enters, locked, stolen_here, given_up, left, held, answered_so, granted_in, step, asked_again}
use Rattle.ovs_lock_desk.proofs.Concerned.{neither}
use Rattle.ovs_lock_desk.proofs.DeskOwed.{both}
use Rattle.ovs_lock_desk.proofs.Named.{after_change, after_changes}

-- ---- lists

any_more : {X : Type 0} (p q : X → Bool) → ((x : X) → p x ≡ true → q x ≡ true) → (xs : List X) → list_any p xs ≡ true → list_any q xs ≡ true
any_more p q more [] some = absurd cc
any_more p q more (x ∷ xs) some = by (p x) refl some (any_more p q more xs)
  where
    by : (b : Bool) → p x ≡ b → (b || list_any p xs) ≡ true → (list_any p xs ≡ true → list_any q xs ≡ true) → (q x || list_any q xs) ≡ true
    by true is some rest = rw (more x is) refl
    by false is some rest = or_true (q x) (list_any q xs) (rest some)
      where
        or_true : (a b : Bool) → b ≡ true → (a || b) ≡ true
        or_true true b e = refl
        or_true false b e = e

or_left : (a b : Bool) → a ≡ true → (a || b) ≡ true
or_left true b e = refl
or_left false b e = absurd cc

pub or_right : (a b : Bool) → b ≡ true → (a || b) ≡ true
or_right true b e = refl
or_right false b e = e

-- what passes stays where nothing that passes is taken out
any_kept : {X : Type 0} (p q : X → Bool) → ((x : X) → p x ≡ true → q x ≡ true) → (xs : List X) → list_any p xs ≡ true → list_any p (filter q xs) ≡ true
any_kept p q keeps [] some = absurd cc
any_kept {X} p q keeps (x ∷ xs) some = by (p x) (q x) refl refl some (any_kept p q keeps xs)
  where
    by : (b c : Bool) → p x ≡ b → q x ≡ c → (b || list_any p xs) ≡ true → (list_any p xs ≡ true → list_any p (filter q xs) ≡ true) → list_any p (cond c (x ∷ filter q xs) (filter q xs)) ≡ true
    by true true is at some rest = rw is refl
    by true false is at some rest = absurd (let clash = sym at ∙ keeps x is in cc)
    by false true is at some rest = rw is (rest some)
    by false false is at some rest = rest some

any_without : {X : Type 0} (p q : X → Bool) → ((x : X) → p x ≡ true → q x ≡ false) → (xs : List X) → list_any p xs ≡ true → list_any p (without_one q xs) ≡ true
any_without p q keeps [] some = absurd cc
any_without {X} p q keeps (x ∷ xs) some = by (p x) (q x) refl refl some (any_without p q keeps xs)
  where
    by : (b c : Bool) → p x ≡ b → q x ≡ c → (b || list_any p xs) ≡ true → (list_any p xs ≡ true → list_any p (without_one q xs) ≡ true) → list_any p (cond c xs (x ∷ without_one q xs)) ≡ true
    by true true is at some rest = absurd (let clash = sym at ∙ keeps x is in cc)
    by true false is at some rest = rw is refl
    by false true is at some rest = some
    by false false is at some rest = rw is (rest some)

not_true : (b : Bool) → b ≡ true → not b ≡ false
not_true true e = refl
not_true false e = absurd cc

-- a steal that isn't answered is owed nothing yet
open_not_due : (session : ℕ) (e : PendingSteal) → is_open e ≡ true → is_due_late session e ≡ false
open_not_due session e is = rw (not_true (is_open e) is) refl

-- ---- who stands in a queue

abbrev waits_in : List Waiter → PendingSteal → Bool
waits_in queue e = is_open e && is_in e.session queue

open_of : (queue : List Waiter) (e : PendingSteal) → waits_in queue e ≡ true → is_open e ≡ true
open_of queue e is = (both (is_open e) (is_in e.session queue) is).0

more_in : (queue later : List Waiter) → ((x : ℕ) → is_in x queue ≡ true → is_in x later ≡ true) → (e : PendingSteal) → waits_in queue e ≡ true → waits_in later e ≡ true
more_in queue later more e is = let b = both (is_open e) (is_in e.session queue) is in rw (b.0, more e.session b.1) refl

nobody_in : (queue : List Waiter) → is_free queue ≡ true → (late : List PendingSteal) → stealer_in queue late ≡ false
nobody_in (a ∷ queue) free late = absurd cc
nobody_in [] free [] = refl
nobody_in [] free (e ∷ late) = rw (and_false (is_open e)) (nobody_in [] free late)
  where
    and_false : (b : Bool) → (b && false) ≡ false
    and_false true = refl
    and_false false = refl

still_in : (session x : ℕ) → x ≢ session → (queue : List Waiter) → is_in x queue ≡ true → is_in x (dropped session queue) ≡ true
still_in session x apart [] there = absurd cc
still_in session x apart (a ∷ queue) there = by (a.session == session) (a.session == x) refl refl there (still_in session x apart queue)
  where
    by : (b c : Bool) → (a.session == session) ≡ b → (a.session == x) ≡ c → (c || is_in x queue) ≡ true → (is_in x queue ≡ true → is_in x (dropped session queue) ≡ true)
        → is_in x (cond (not b) (a ∷ dropped session queue) (dropped session queue)) ≡ true
    by true true is at some rest = absurd (apart (sym (eqb-true a.session x at) ∙ eqb-true a.session session is))
    by true false is at some rest = rest some
    by false true is at some rest = rw at refl
    by false false is at some rest = rw at (rest some)

in_granted : (x : ℕ) (now : Bool) (queue : List Waiter) → is_in x (granted now queue) ≡ is_in x queue
in_granted x now [] = refl
in_granted x true (a ∷ queue) = refl
in_granted x false (a ∷ queue) = refl

free_granted : (now : Bool) (queue : List Waiter) → is_free (granted now queue) ≡ is_free queue
free_granted now [] = refl
free_granted now (a ∷ queue) = refl

in_left : (session x : ℕ) → x ≢ session → (c : LockState) (lock : LockValue) → is_in x lock.queue ≡ true → is_in x (left session c lock).queue ≡ true
in_left session x apart c lock there = by (is_held c)
  where
    still : is_in x (dropped session lock.queue) ≡ true
    still = still_in session x apart lock.queue there

    by : (b : Bool) → is_in x (cond b (without session lock) (forgotten session lock)).queue ≡ true
    by true = in_granted x _ (dropped session lock.queue) ∙ still
    by false = still

-- the same sessions stand in it
same_in : (x : ℕ) (xs ys : List Waiter) → sessions ys ≡ sessions xs → is_in x ys ≡ is_in x xs
same_in x xs ys same = sym (told x ys) ∙ ap (list_any (λ (y : ℕ). y == x)) same ∙ told x xs
  where
    told : (x : ℕ) (zs : List Waiter) → list_any (λ (y : ℕ). y == x) (sessions zs) ≡ is_in x zs
    told x [] = refl
    told x (a ∷ zs) = ap (λ (b : Bool). (a.session == x) || b) (told x zs)

abbrev is_empty : List ℕ → Bool
is_empty [] = true
is_empty (n ∷ ns) = false

same_free : (xs ys : List Waiter) → sessions ys ≡ sessions xs → is_free ys ≡ is_free xs
same_free xs ys same = sym (told ys) ∙ ap is_empty same ∙ told xs
  where
    told : (zs : List Waiter) → is_empty (sessions zs) ≡ is_free zs
    told [] = refl
    told (a ∷ zs) = refl

same_heard : (session : ℕ) (xs : List Waiter) → sessions (heard session xs) ≡ sessions xs
same_heard session [] = refl
same_heard session (a ∷ xs) = λ i. one (a.session == session) refl i ∷ same_heard session xs i
  where
    one : (b : Bool) → (a.session == session) ≡ b → (told_one session a).session ≡ a.session
    one true is = rw is (sym (eqb-true a.session session is))
    one false is = rw is refl

-- ---- states

asked_steal : (has_source : Bool) (c : LockState) → is_steal_due (cond has_source (state_locked c) c) ≡ true → is_steal_due c ≡ true
asked_steal false c is = is
asked_steal true (Idle due.Nothing) is = is
asked_steal true (Idle due.Lock) is = is
asked_steal true (Idle due.Steal) is = refl
asked_steal true (Idle due.Unlock) is = is
asked_steal true (Idle due.UnlockLock) is = is
asked_steal true (Idle due.UnlockSteal) is = refl
asked_steal true (Sent n) is = is
asked_steal true Waiting is = is
asked_steal true Held is = is

given_up_steal : (c : LockState) → is_steal_due (state_given_up c) ≡ true → is_steal_due c ≡ true
given_up_steal (Idle due.Nothing) is = is
given_up_steal (Idle due.Lock) is = is
given_up_steal (Idle due.Steal) is = refl
given_up_steal (Idle due.Unlock) is = is
given_up_steal (Idle due.UnlockLock) is = is
given_up_steal (Idle due.UnlockSteal) is = refl
given_up_steal (Sent n) is = is
given_up_steal Waiting is = is
given_up_steal Held is = is

given_up_nothing : (c : LockState) → is_steal_due c ≡ false → asks_nothing (state_given_up c) ≡ true
given_up_nothing (Idle due.Nothing) is = refl
given_up_nothing (Idle due.Lock) is = refl
given_up_nothing (Idle due.Steal) is = absurd cc
given_up_nothing (Idle due.Unlock) is = refl
given_up_nothing (Idle due.UnlockLock) is = refl
given_up_nothing (Idle due.UnlockSteal) is = absurd cc
given_up_nothing (Sent n) is = refl
given_up_nothing Waiting is = refl
given_up_nothing Held is = refl

nothing_given_up : (c : LockState) → asks_nothing c ≡ true → state_given_up c ≡ c
nothing_given_up (Idle due.Nothing) is = refl
nothing_given_up (Idle due.Lock) is = absurd cc
nothing_given_up (Idle due.Steal) is = absurd cc
nothing_given_up (Idle due.Unlock) is = refl
nothing_given_up (Idle due.UnlockLock) is = absurd cc
nothing_given_up (Idle due.UnlockSteal) is = absurd cc
nothing_given_up (Sent n) is = absurd cc
nothing_given_up Waiting is = absurd cc
nothing_given_up Held is = absurd cc

no_steal_as_lock : (c : LockState) → is_steal_due (state_as_lock c) ≡ false
no_steal_as_lock (Idle due.Nothing) = refl
no_steal_as_lock (Idle due.Lock) = refl
no_steal_as_lock (Idle due.Steal) = refl
no_steal_as_lock (Idle due.Unlock) = refl
no_steal_as_lock (Idle due.UnlockLock) = refl
no_steal_as_lock (Idle due.UnlockSteal) = refl
no_steal_as_lock (Sent n) = refl
no_steal_as_lock Waiting = refl
no_steal_as_lock Held = refl

sent_nothing : (n : ℕ) (c : LockState) → asks_nothing c ≡ true → asks_nothing (state_sent n c) ≡ true
sent_nothing n (Idle due.Nothing) is = refl
sent_nothing n (Idle due.Lock) is = absurd cc
sent_nothing n (Idle due.Steal) is = absurd cc
sent_nothing n (Idle due.Unlock) is = refl
sent_nothing n (Idle due.UnlockLock) is = absurd cc
sent_nothing n (Idle due.UnlockSteal) is = absurd cc
sent_nothing n (Sent m) is = absurd cc
sent_nothing n Waiting is = absurd cc
sent_nothing n Held is = absurd cc

sent_steal : (n : ℕ) (c : LockState) → is_steal_due (state_sent n c) ≡ true → is_steal_due c ≡ true
sent_steal n (Idle due.Nothing) is = is
sent_steal n (Idle due.Lock) is = absurd cc
sent_steal n (Idle due.Steal) is = refl
sent_steal n (Idle due.Unlock) is = absurd cc
sent_steal n (Idle due.UnlockLock) is = absurd cc
sent_steal n (Idle due.UnlockSteal) is = refl
sent_steal n (Sent m) is = is
sent_steal n Waiting is = is
sent_steal n Held is = is

sent_asks : (n : ℕ) (c : LockState) → is_sent n c ≡ true → asks_nothing c ≡ false
sent_asks n (Idle d) is = absurd cc
sent_asks n (Sent m) is = refl
sent_asks n Waiting is = refl
sent_asks n Held is = refl

-- ---- one lock

not_both : (b : Bool) → b ≡ true → b ≡ false → ⊥
not_both b e f = let clash = sym e ∙ f in absurd cc

-- somebody asks for a lock for which something is asked
taken : (l : RelayLockValue) → IsSettled l → asks_nothing l.state ≡ false → is_free l.lock.queue ≡ false
taken l s asks = by (is_free l.lock.queue) refl
  where
    by : (b : Bool) → is_free l.lock.queue ≡ b → b ≡ false
    by true is = absurd (not_both (asks_nothing l.state) (s.free is) asks)
    by false is = refl

settled_taken : (l : RelayLockValue) → is_free l.lock.queue ≡ false → is_steal_due l.state ≡ false → IsSettled l
settled_taken l busy none = record {
  free = λ is. absurd (not_both (is_free l.lock.queue) is busy);
  steal = λ is. absurd (not_both (is_steal_due l.state) is none);
}

settled_held : (l : RelayLockValue) → is_free l.lock.queue ≡ false → IsSettled (held l)
settled_held l busy = settled_taken (held l) (by (steal_open l)) refl
  where
    by : (b : Bool) → is_free (cond b l.lock (granted_first l.lock)).queue ≡ false
    by true = busy
    by false = free_granted true l.lock.queue ∙ busy

settled_given_up : (lock : LockValue) (late : List PendingSteal) (c : LockState) → (is_steal_due c ≡ true → stealer_in lock.queue late ≡ true) → IsSettled (given_up lock late c)
settled_given_up lock late c steals = by (is_free lock.queue) refl
  where
    none : is_free lock.queue ≡ true → (b : Bool) → is_steal_due c ≡ b → b ≡ false
    none free true is = absurd (not_both (stealer_in lock.queue late) (steals is) (nobody_in lock.queue free late))
    none free false is = refl

    by : (b : Bool) → is_free lock.queue ≡ b → IsSettled (record { lock = lock; late = late; state = cond b (state_given_up c) c })
    by true is = record { free = λ free. given_up_nothing c (none is (is_steal_due c) refl); steal = λ due. steals (given_up_steal c due) }
    by false is = record { free = λ free. absurd (not_both (is_free lock.queue) free is); steal = steals }

-- the others wait still
others_wait : (session : ℕ) (queue later : List Waiter) → ((x : ℕ) → x ≢ session → is_in x queue ≡ true → is_in x later ≡ true) → (late : List PendingSteal)
    → list_any (is_own_open session) late ≡ false → stealer_in queue late ≡ true → (stealer_in later late ≡ true) × (stealer_in later (without_late session late) ≡ true)
others_wait session queue later more [] none some = absurd cc
others_wait session queue later more (e ∷ late) none some =
    let n = neither (is_own_open session e) (list_any (is_own_open session) late) none in
    by (waits_in queue e) refl some n.0 (others_wait session queue later more late n.1)
  where
    apart : is_own_open session e ≡ false → waits_in queue e ≡ true → (b : Bool) → (e.session == session) ≡ b → b ≡ false
    apart own is true at = absurd (not_both (is_own_open session e) (rw (open_of queue e is, at) refl) own)
    apart own is false at = refl

    rest_of : (b c : Bool) → stealer_in later late ≡ true → stealer_in later (without_late session late) ≡ true
        → ((b || stealer_in later late) ≡ true) × (stealer_in later (cond c (e ∷ without_late session late) (without_late session late)) ≡ true)
    rest_of b true all kept = (or_right b (stealer_in later late) all, or_right (waits_in later e) (stealer_in later (without_late session late)) kept)
    rest_of b false all kept = (or_right b (stealer_in later late) all, kept)

    by : (b : Bool) → waits_in queue e ≡ b → (b || stealer_in queue late) ≡ true → is_own_open session e ≡ false
        → (stealer_in queue late ≡ true → (stealer_in later late ≡ true) × (stealer_in later (without_late session late) ≡ true))
        → (stealer_in later (e ∷ late) ≡ true) × (stealer_in later (without_late session (e ∷ late)) ≡ true)
    by true is some own rest =
        let other : (e.session == session) ≡ false = apart own is (e.session == session) refl in
        let there : waits_in later e ≡ true = rw (open_of queue e is, more e.session (eqb-false e.session session other) (both (is_open e) (is_in e.session queue) is).1) refl in
        (or_left (waits_in later e) (stealer_in later late) there, rw other (or_left (waits_in later e) (stealer_in later (without_late session late)) there))
    by false is some own rest = let r = rest some in rest_of (waits_in later e) (not (is_of session e)) r.0 r.1

settled_same : (l m : RelayLockValue) → m.state ≡ l.state → is_free m.lock.queue ≡ is_free l.lock.queue → (stealer_in l.lock.queue l.late ≡ true → stealer_in m.lock.queue m.late ≡ true)
    → IsSettled l → IsSettled m
settled_same l m state free steals s = record {
  free = λ is. ap asks_nothing state ∙ s.free (sym free ∙ is);
  steal = λ is. steals (s.steal (sym (ap is_steal_due state) ∙ is));
}

pub settled_sent : (n : ℕ) (l : RelayLockValue) → IsSettled l → IsSettled (step (events.Sent n) l)
settled_sent n l s = record { free = λ is. sent_nothing n l.state (s.free is); steal = λ is. s.steal (sent_steal n l.state is) }

pub settled_stepped : (event : LockEvent) (l : RelayLockValue) → MayHappen event l → IsSettled l → IsSettled (step event l)
settled_stepped (events.Unlocked session) l own s =
    settled_given_up (left session l.state l.lock) l.late l.state
    (λ due. (others_wait session l.lock.queue (left session l.state l.lock).queue (λ x apart. in_left session x apart l.state l.lock) l.late own (s.steal due)).0)
settled_stepped (events.Sent n) l may s = absurd may
settled_stepped (events.Answered n reply) l may s = by (is_sent n l.state) reply refl
  where
    by : (b : Bool) (reply : LockReply) → is_sent n l.state ≡ b → IsSettled (cond b (answered_so reply l) l)
    by true replies.Given is = settled_held l (taken l s (sent_asks n l.state is))
    by true replies.Waits is = settled_taken (record { lock = l.lock; late = l.late; state = Waiting }) (taken l s (sent_asks n l.state is)) refl
    by true replies.Refused is = record { free = λ _. refl; steal = λ due. absurd cc }
    by false reply is = s
settled_stepped events.Granted l may s = by l.state refl
  where
    by : (c : LockState) → l.state ≡ c → IsSettled (granted_in c l)
    by (Idle d) is = s
    by (Sent m) is = s
    by Waiting is = settled_held l (taken l s (ap asks_nothing is))
    by Held is = s
settled_stepped events.Stolen l may s = by (is_held l.state)
  where
    of : (lock : LockValue) (b : Bool) → is_free lock.queue ≡ b → IsSettled (record { lock = lock; late = l.late; state = Idle (cond b due.Unlock due.UnlockLock) })
    of lock true is = record { free = λ _. refl; steal = λ due. absurd cc }
    of lock false is = record { free = λ free. absurd (not_both (is_free lock.queue) free is); steal = λ due. absurd cc }

    by : (b : Bool) → IsSettled (cond b (record { lock = robbed_first l.lock; late = l.late; state = asked_again (robbed_first l.lock) }) l)
    by true = of (robbed_first l.lock) (is_free (robbed_first l.lock).queue) refl
    by false = s
settled_stepped events.Lost l may s = record { free = λ _. refl; steal = λ due. absurd cc }
settled_stepped events.Found l may s = by (is_free l.lock.queue) refl
  where
    by : (b : Bool) → is_free l.lock.queue ≡ b → IsSettled (record { lock = l.lock; late = l.late; state = cond b l.state (Idle due.Lock) })
    by true is = s
    by false is = record { free = λ free. absurd (not_both (is_free l.lock.queue) free is); steal = λ due. absurd cc }
settled_stepped (events.Ended session) l may s = by (own_steal_open session l) refl
  where
    by : (b : Bool) → own_steal_open session l ≡ b
        → IsSettled (given_up (left session (cond b (state_as_lock l.state) l.state) l.lock) (without_late session l.late) (cond b (state_as_lock l.state) l.state))
    by true is =
        settled_given_up (left session (state_as_lock l.state) l.lock) (without_late session l.late) (state_as_lock l.state)
        (λ due. absurd (not_both (is_steal_due (state_as_lock l.state)) due (no_steal_as_lock l.state)))
    by false is =
        settled_given_up (left session l.state l.lock) (without_late session l.late) l.state
        (λ due. (others_wait session l.lock.queue (left session l.state l.lock).queue (λ x apart. in_left session x apart l.state l.lock) l.late is (s.steal due)).1)
settled_stepped (events.AnswerTold session) l may s =
    settled_same l (step (events.AnswerTold session) l) refl refl
    (any_without (waits_in l.lock.queue) (is_due_late session) (λ e is. open_not_due session e (open_of l.lock.queue e is)) l.late) s
settled_stepped (events.NoticeTold session) l may s =
    let same = one_heard session l.lock in
    settled_same l (step (events.NoticeTold session) l) refl (same_free l.lock.queue (after_one session l.lock).queue same.queue)
    (any_more (waits_in l.lock.queue) (waits_in (after_one session l.lock).queue)
    (more_in l.lock.queue (after_one session l.lock).queue (λ x there. same_in x l.lock.queue (after_one session l.lock).queue same.queue ∙ there)) l.late) s
settled_stepped (events.AllTold session) l may s =
    settled_same l (step (events.AllTold session) l) refl (same_free l.lock.queue (heard session l.lock.queue) (same_heard session l.lock.queue))
    (λ some. any_kept (waits_in (heard session l.lock.queue)) (λ e. not (is_due_late session e)) (λ e is. rw (open_not_due session e (open_of (heard session l.lock.queue) e is)) refl) l.late
    (any_more (waits_in l.lock.queue) (waits_in (heard session l.lock.queue))
    (more_in l.lock.queue (heard session l.lock.queue) (λ x there. same_in x l.lock.queue (heard session l.lock.queue) (same_heard session l.lock.queue) ∙ there)) l.late some)) s

pub settled_asked : (has_source : Bool) (session : ℕ) (verb : LockVerb) (id : Data) (l : RelayLockValue) → enters verb ≡ true → IsSettled l → IsSettled (asked_here has_source session verb id l)
settled_asked has_source session verbs.Lock id l own s = record {
  free = λ free. absurd (not_both (is_free (locked has_source session l).lock.queue) free (not_free l.lock.queue (waiter session)));
  steal = λ due.
      any_more (waits_in l.lock.queue) (waits_in (locked has_source session l).lock.queue)
      (more_in l.lock.queue (locked has_source session l).lock.queue (λ x there. list_any-append (is_who x) l.lock.queue (waiter session ∷ []) ∙ or_left (is_in x l.lock.queue) (is_in x (waiter session ∷ [])) there))
      l.late (s.steal (asked_steal has_source l.state due));
}
settled_asked has_source session verbs.Steal id l own s = by (is_held l.state) refl
  where
    here : waits_in (put_first session l.lock).queue (late_of session id) ≡ true
    here = or_left (session == session) (is_in session l.lock.queue) (eq-eqb session session refl)

    by : (b : Bool) → is_held l.state ≡ b → IsSettled (stolen_here session id l)
    by true is = rw is (settled_taken _ (not_free_stolen session l.lock.queue l.lock.stolen) (held_only l.state is))
      where
        held_only : (c : LockState) → is_held c ≡ true → is_steal_due c ≡ false
        held_only (Idle d) e = absurd cc
        held_only (Sent n) e = absurd cc
        held_only Waiting e = absurd cc
        held_only Held e = refl
    by false is = rw is (record {
      free = λ free. absurd cc;
      steal = λ due.
          list_any-append (waits_in (put_first session l.lock).queue) l.late (late_of session id ∷ [])
          ∙ or_right (stealer_in (put_first session l.lock).queue l.late) (stealer_in (put_first session l.lock).queue (late_of session id ∷ [])) (or_left (waits_in (put_first session l.lock).queue (late_of session id)) false here);
    })
settled_asked has_source session verbs.Unlock id l own s = absurd cc

-- ---- the locks by name

none_settled : IsSettled no_relay_lock
none_settled = record { free = λ _. refl; steal = λ due. absurd cc }

pub settled_at : (name : List ℕ) (f : RelayLockValue → RelayLockValue) (old new : RelayLocks) → Ascends old → AreSettled old → ChangesAt name f old new
    → (IsSettled (relay_lock_at name old) → IsSettled (f (relay_lock_at name old))) → AreSettled new
settled_at name f old new ascend settled change keeps q =
    after_change is_desk_idle no_relay_lock IsSettled none_settled q name f old new change ascend (λ same. keeps (settled name)) (settled q)

pub settled_each : (event : LockEvent) (old new : RelayLocks) → Ascends old → AreSettled old → new ≡ stepped event old → ((l : RelayLockValue) → MayHappen event l) → AreSettled new
settled_each event old new ascend settled change may q =
    subst (λ (es : RelayLocks). IsSettled (relay_lock_at q es)) (sym change)
    (after_changes is_desk_idle no_relay_lock IsSettled none_settled q (step event) old ascend (settled_stepped event (relay_lock_at q old) (may (relay_lock_at q old)) (settled q)))

-- ---- a session that has nothing to do with a lock

none_taken : (session : ℕ) (late : List PendingSteal) → list_any (is_of session) late ≡ false → without_late session late ≡ late
none_taken session [] none = refl
none_taken session (e ∷ late) none =
    let n = neither (is_of session e) (list_any (is_of session) late) none in
    rw n.0 (ap (λ (es : List PendingSteal). e ∷ es) (none_taken session late n.1))

none_open : (session : ℕ) (late : List PendingSteal) → list_any (is_of session) late ≡ false → list_any (is_own_open session) late ≡ false
none_open session [] none = refl
none_open session (e ∷ late) none =
    let n = neither (is_of session e) (list_any (is_of session) late) none in
    rw (and_false (is_open e) (is_of session e) n.0) (none_open session late n.1)
  where
    and_false : (a b : Bool) → b ≡ false → (a && b) ≡ false
    and_false true b e = e
    and_false false b e = refl

same_list : (session : ℕ) (xs : List Waiter) → is_in session xs ≡ false → dropped session xs ≡ xs
same_list session [] none = refl
same_list session (a ∷ xs) none =
    let n = neither (a.session == session) (is_in session xs) none in
    rw n.0 (ap (λ (ys : List Waiter). a ∷ ys) (same_list session xs n.1))

not_first : (session : ℕ) (xs : List Waiter) → is_in session xs ≡ false → is_first session xs ≡ false
not_first session [] none = refl
not_first session (a ∷ xs) none = (neither (a.session == session) (is_in session xs) none).0

granted_none : (xs : List Waiter) → granted false xs ≡ xs
granted_none [] = refl
granted_none (a ∷ xs) = refl

without_none : (session : ℕ) (lock : LockValue) → stands session lock ≡ false → without session lock ≡ lock
without_none session lock none =
    let n = neither (is_in session lock.queue) (is_in session lock.stolen) none in
    let queue : granted (is_first session lock.queue) (dropped session lock.queue) ≡ lock.queue =
    ap (λ (b : Bool). granted b (dropped session lock.queue)) (not_first session lock.queue n.0) ∙ ap (granted false) (same_list session lock.queue n.0) ∙ granted_none lock.queue in
    let stolen = same_list session lock.stolen n.1 in
    λ i. record { queue = queue i; stolen = stolen i }

forgotten_none : (session : ℕ) (lock : LockValue) → stands session lock ≡ false → forgotten session lock ≡ lock
forgotten_none session lock none =
    let n = neither (is_in session lock.queue) (is_in session lock.stolen) none in
    let queue = same_list session lock.queue n.0 in
    let stolen = same_list session lock.stolen n.1 in
    λ i. record { queue = queue i; stolen = stolen i }

left_none : (session : ℕ) (c : LockState) (lock : LockValue) → stands session lock ≡ false → left session c lock ≡ lock
left_none session c lock none = by (is_held c)
  where
    by : (b : Bool) → cond b (without session lock) (forgotten session lock) ≡ lock
    by true = without_none session lock none
    by false = forgotten_none session lock none

-- its end makes nothing of it
pub end_of_another : (session : ℕ) (l : RelayLockValue) → IsSettled l → concerns session l ≡ false → step (events.Ended session) l ≡ l
end_of_another session l s none =
    let n = neither (list_any (is_of session) l.late) (stands session l.lock) none in
    rw (none_open session l.late n.0, left_none session l.state l.lock n.1, none_taken session l.late n.0) (λ i. record { lock = l.lock; late = l.late; state = state i })
  where
    state : cond (is_free l.lock.queue) (state_given_up l.state) l.state ≡ l.state
    state = by (is_free l.lock.queue) refl
      where
        by : (b : Bool) → is_free l.lock.queue ≡ b → cond b (state_given_up l.state) l.state ≡ l.state
        by true is = nothing_given_up l.state (s.free is)
        by false is = refl
