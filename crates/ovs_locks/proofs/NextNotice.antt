-- The first notice that a session is owed, and what it is owed after it.
use Rattle.std.proofs.Common.{◌≡◌, ℕ, List, [], ◌∷◌, ◌++◌, Bool, true, false, cond, Some, None, refl, sym, ap, ◌∙◌, drop}
use Rattle.std.specs.Prelude.{◌==◌, ◌≢◌, ◌&&◌, ◌||◌, slice_get, is_some}
use Rattle.std.specs.List.{list_any}
use Rattle.std.proofs.lemmas.Bool.{eqb-true}
use Rattle.ovs_locks.specs.declared.waiter.Waiter.{Waiter}
use Rattle.ovs_locks.specs.declared.waiter.PendingNotice.{PendingNotice}
use Rattle.ovs_locks.specs.declared.waiter.PendingNotice.TheVariants.{Nothing, Locked, Stolen, LockedAndStolen}
use Rattle.ovs_locks.specs.declared.notice.LockNotice.{LockNotice}
use Rattle.ovs_locks.specs.declared.notice.LockNotice.TheVariants as told
use Rattle.ovs_locks.specs.Lock.{LockValue, no_lock, is_in, first_who, notices_of, owed_in, owed_for, name_told, is_idle, is_due, after_first, awaits, first_due, told_first, heard_first, after_one, sessions, SameSessions}
use Rattle.ovs_locks.specs.LockTable.{Locks, AscendByName, NoneIdle, ChangesAt, owed_to, KeepsSessions}
use Rattle.ovs_locks.proofs.ByName.{change_relates}
use Rattle.ovs_locks.proofs.Gathering.{gathered_same, first_given}
use Rattle.ovs_locks.proofs.Idle.{idle_owes, one_idle}
use Rattle.ovs_locks.proofs.Tables.{by_test}

-- ---- the first of a list

no_first : {X : Type 0} (xs : List X) → slice_get xs 0 ≡ None → xs ≡ []
no_first [] e = refl
no_first (x ∷ xs) e = absurd cc

pub nothing_first : {X : Type 0} (xs : List X) → is_some (slice_get xs 0) ≡ false → xs ≡ []
nothing_first [] e = refl
nothing_first (x ∷ xs) e = absurd cc

pub first_front : {X : Type 0} (xs ys : List X) → is_some (slice_get xs 0) ≡ true → slice_get (xs ++ ys) 0 ≡ slice_get xs 0
first_front [] ys e = absurd cc
first_front (x ∷ xs) ys e = refl

drop_front : {X : Type 0} (xs ys : List X) → is_some (slice_get xs 0) ≡ true → drop 1 (xs ++ ys) ≡ drop 1 xs ++ ys
drop_front [] ys e = absurd cc
drop_front (x ∷ xs) ys e = refl

both : (b c : Bool) → (b && c) ≡ true → (b ≡ true) × (c ≡ true)
both true c e = (refl, e)
both false c e = absurd cc

-- ---- one session of a list

no_notices : (name : List ℕ) (o : PendingNotice) → is_due o ≡ false → notices_of name o ≡ []
no_notices name Nothing e = refl
no_notices name Locked e = absurd cc
no_notices name Stolen e = absurd cc
no_notices name LockedAndStolen e = absurd cc

due_first : (name : List ℕ) (o : PendingNotice) → is_some (slice_get (notices_of name o) 0) ≡ is_due o
due_first name Nothing = refl
due_first name Locked = refl
due_first name Stolen = refl
due_first name LockedAndStolen = refl

told_rest : (name : List ℕ) (o : PendingNotice) (later : List LockNotice) → is_due o ≡ true → notices_of name (after_first o) ++ later ≡ drop 1 (notices_of name o ++ later)
told_rest name Nothing later e = absurd cc
told_rest name Locked later e = refl
told_rest name Stolen later e = refl
told_rest name LockedAndStolen later e = refl

named_of : (name : List ℕ) (o : PendingNotice) (x : LockNotice) → slice_get (notices_of name o) 0 ≡ Some x → name_told x ≡ name
named_of name Nothing x e = absurd cc
named_of name Locked x e = let is : told.Locked name ≡ x = cc in sym (ap name_told is)
named_of name Stolen x e = let is : told.Stolen name ≡ x = cc in sym (ap name_told is)
named_of name LockedAndStolen x e = let is : told.Locked name ≡ x = cc in sym (ap name_told is)

unawaited : (session : ℕ) (name : List ℕ) (a : Waiter) → awaits session a ≡ false → cond (a.session == session) (notices_of name a.owed) [] ≡ []
unawaited session name a e = by (a.session == session) e
  where
    by : (b : Bool) → (b && is_due a.owed) ≡ false → cond b (notices_of name a.owed) [] ≡ []
    by true e = no_notices name a.owed e
    by false e = refl

-- ---- a list of sessions

first_in : (session : ℕ) (name : List ℕ) (xs : List Waiter) → slice_get (owed_in session name xs) 0 ≡ slice_get (notices_of name (first_due session xs)) 0
first_in session name [] = refl
first_in session name (a ∷ xs) = by (awaits session a) refl (first_in session name xs)
  where
    by : (b : Bool) → awaits session a ≡ b → slice_get (owed_in session name xs) 0 ≡ slice_get (notices_of name (first_due session xs)) 0
        → slice_get (cond (a.session == session) (notices_of name a.owed) [] ++ owed_in session name xs) 0 ≡ slice_get (notices_of name (cond b a.owed (first_due session xs))) 0
    by true e rest =
        let is = both (a.session == session) (is_due a.owed) e in
        rw is.0 (first_front (notices_of name a.owed) (owed_in session name xs) (due_first name a.owed ∙ is.1))
    by false e rest = ap (λ ns. slice_get (ns ++ owed_in session name xs) 0) (unawaited session name a e) ∙ rest

pub none_due : (session : ℕ) (name : List ℕ) (xs : List Waiter) → is_due (first_due session xs) ≡ false → owed_in session name xs ≡ []
none_due session name xs e = no_first (owed_in session name xs) (first_in session name xs ∙ ap (λ ns. slice_get ns 0) (no_notices name (first_due session xs) e))

pub some_due : (session : ℕ) (name : List ℕ) (xs : List Waiter) → is_due (first_due session xs) ≡ true → is_some (slice_get (owed_in session name xs) 0) ≡ true
some_due session name xs e = ap is_some (first_in session name xs) ∙ due_first name (first_due session xs) ∙ e

owed_heard : (session : ℕ) (name : List ℕ) (xs : List Waiter) → owed_in session name (heard_first session xs) ≡ drop 1 (owed_in session name xs)
owed_heard session name [] = refl
owed_heard session name (a ∷ xs) = by (awaits session a) refl (owed_heard session name xs)
  where
    by : (b : Bool) → awaits session a ≡ b → owed_in session name (heard_first session xs) ≡ drop 1 (owed_in session name xs)
        → owed_in session name (cond b (told_first a ∷ xs) (a ∷ heard_first session xs)) ≡ drop 1 (cond (a.session == session) (notices_of name a.owed) [] ++ owed_in session name xs)
    by true e rest =
        let is = both (a.session == session) (is_due a.owed) e in
        rw is.0 (told_rest name a.owed (owed_in session name xs) is.1)
    by false e rest =
        ap (λ ns. ns ++ owed_in session name (heard_first session xs)) (unawaited session name a e)
        ∙ rest
        ∙ sym (ap (λ ns. drop 1 (ns ++ owed_in session name xs)) (unawaited session name a e))

-- ---- one lock

pub first_in_queue : (session : ℕ) (name : List ℕ) (l : LockValue) → is_due (first_due session l.queue) ≡ true
    → slice_get (owed_for session name l) 0 ≡ slice_get (notices_of name (first_due session l.queue)) 0
first_in_queue session name l e = first_front (owed_in session name l.queue) (owed_in session name l.stolen) (some_due session name l.queue e) ∙ first_in session name l.queue

pub first_in_stolen : (session : ℕ) (name : List ℕ) (l : LockValue) → is_due (first_due session l.queue) ≡ false
    → slice_get (owed_for session name l) 0 ≡ slice_get (notices_of name (first_due session l.stolen)) 0
first_in_stolen session name l e = ap (λ ns. slice_get (ns ++ owed_in session name l.stolen) 0) (none_due session name l.queue e) ∙ first_in session name l.stolen

-- whether it owes the session a notice
pub lock_owes : (session : ℕ) (name : List ℕ) (l : LockValue) → is_some (slice_get (owed_for session name l) 0) ≡ (is_due (first_due session l.queue) || is_due (first_due session l.stolen))
lock_owes session name l = by (is_due (first_due session l.queue)) refl
  where
    by : (b : Bool) → is_due (first_due session l.queue) ≡ b → is_some (slice_get (owed_for session name l) 0) ≡ (b || is_due (first_due session l.stolen))
    by true d = ap is_some (first_in_queue session name l d) ∙ due_first name (first_due session l.queue) ∙ d
    by false d = ap is_some (first_in_stolen session name l d) ∙ due_first name (first_due session l.stolen)

-- a lock that owes the session a notice is the first to owe one
pub first_owes : (xs ys : List LockNotice) → is_some (slice_get xs 0) ≡ true → is_some (slice_get (xs ++ ys) 0) ≡ true
first_owes xs ys e = ap is_some (first_front xs ys e) ∙ e

-- its first notice tells of it
pub named_for : (session : ℕ) (name : List ℕ) (l : LockValue) (x : LockNotice) → slice_get (owed_for session name l) 0 ≡ Some x → name_told x ≡ name
named_for session name l x e = by (is_due (first_due session l.queue)) refl
  where
    by : (b : Bool) → is_due (first_due session l.queue) ≡ b → name_told x ≡ name
    by true d = named_of name (first_due session l.queue) x (sym (first_in_queue session name l d) ∙ e)
    by false d = named_of name (first_due session l.stolen) x (sym (first_in_stolen session name l d) ∙ e)

pub lock_heard : (session : ℕ) (name : List ℕ) (l : LockValue) → owed_for session name (after_one session l) ≡ drop 1 (owed_for session name l)
lock_heard session name l = by (is_due (first_due session l.queue)) refl
  where
    by : (b : Bool) → is_due (first_due session l.queue) ≡ b
        → owed_in session name (heard_first session l.queue) ++ owed_in session name (cond b l.stolen (heard_first session l.stolen)) ≡ drop 1 (owed_in session name l.queue ++ owed_in session name l.stolen)
    by true d =
        ap (λ ns. ns ++ owed_in session name l.stolen) (owed_heard session name l.queue)
        ∙ sym (drop_front (owed_in session name l.queue) (owed_in session name l.stolen) (some_due session name l.queue d))
    by false d =
        ap (λ ns. ns ++ owed_in session name (heard_first session l.stolen)) (owed_heard session name l.queue ∙ ap (drop 1) (none_due session name l.queue d))
        ∙ owed_heard session name l.stolen
        ∙ sym (ap (λ ns. drop 1 (ns ++ owed_in session name l.stolen)) (none_due session name l.queue d))

-- another session is owed what it was
heard_apart : (session other : ℕ) (name : List ℕ) → other ≢ session → (xs : List Waiter) → owed_in other name (heard_first session xs) ≡ owed_in other name xs
heard_apart session other name ne [] = refl
heard_apart session other name ne (a ∷ xs) = by (awaits session a) refl (heard_apart session other name ne xs)
  where
    by : (b : Bool) → awaits session a ≡ b → owed_in other name (heard_first session xs) ≡ owed_in other name xs
        → owed_in other name (cond b (told_first a ∷ xs) (a ∷ heard_first session xs)) ≡ cond (a.session == other) (notices_of name a.owed) [] ++ owed_in other name xs
    by true e rest =
        let is = both (a.session == session) (is_due a.owed) e in
        let not_other : (a.session == other) ≡ false = by_test (a.session == other) (λ t. ne (sym (eqb-true a.session other t) ∙ eqb-true a.session session is.0)) in
        rw not_other refl
    by false e rest = ap (λ ns. cond (a.session == other) (notices_of name a.owed) [] ++ ns) rest

pub lock_apart : (session other : ℕ) (name : List ℕ) → other ≢ session → (l : LockValue) → owed_for other name (after_one session l) ≡ owed_for other name l
lock_apart session other name ne l =
    ap (λ ns. ns ++ owed_in other name (after_one session l).stolen) (heard_apart session other name ne l.queue)
    ∙ ap (λ ns. owed_in other name l.queue ++ ns) (by (is_due (first_due session l.queue)))
  where
    by : (b : Bool) → owed_in other name (cond b l.stolen (heard_first session l.stolen)) ≡ owed_in other name l.stolen
    by true = refl
    by false = heard_apart session other name ne l.stolen

-- ---- who stands in a lock

sessions_heard : (session : ℕ) (xs : List Waiter) → sessions (heard_first session xs) ≡ sessions xs
sessions_heard session [] = refl
sessions_heard session (a ∷ xs) = by (awaits session a) (sessions_heard session xs)
  where
    by : (b : Bool) → sessions (heard_first session xs) ≡ sessions xs → sessions (cond b (told_first a ∷ xs) (a ∷ heard_first session xs)) ≡ a.session ∷ sessions xs
    by true rest = refl
    by false rest = ap (λ ws. a.session ∷ ws) rest

first_session : (xs : List Waiter) → first_who xs ≡ slice_get (sessions xs) 0
first_session [] = refl
first_session (a ∷ xs) = refl

in_sessions : (session : ℕ) (xs : List Waiter) → is_in session xs ≡ list_any (λ w. w == session) (sessions xs)
in_sessions session [] = refl
in_sessions session (a ∷ xs) = ap (λ b. (a.session == session) || b) (in_sessions session xs)

same_in : (session : ℕ) (xs ys : List Waiter) → sessions ys ≡ sessions xs → is_in session ys ≡ is_in session xs
same_in session xs ys e = in_sessions session ys ∙ ap (list_any (λ w. w == session)) e ∙ sym (in_sessions session xs)

same_sessions : (l m : LockValue) → sessions m.queue ≡ sessions l.queue → sessions m.stolen ≡ sessions l.stolen → SameSessions l m
same_sessions l m q s = record {
  queue = q;
  stolen = s;
  same_owner = first_session m.queue ∙ ap (λ ws. slice_get ws 0) q ∙ sym (first_session l.queue);
  same_standing = λ session. ap (λ b. b || is_in session m.stolen) (same_in session l.queue m.queue q) ∙ ap (λ b. is_in session l.queue || b) (same_in session l.stolen m.stolen s);
}

itself : (l : LockValue) → SameSessions l l
itself l = same_sessions l l refl refl

pub one_heard : (session : ℕ) (l : LockValue) → SameSessions l (after_one session l)
one_heard session l = same_sessions l (after_one session l) (sessions_heard session l.queue) (by (is_due (first_due session l.queue)))
  where
    by : (b : Bool) → sessions (cond b l.stolen (heard_first session l.stolen)) ≡ sessions l.stolen
    by true = refl
    by false = sessions_heard session l.stolen

-- ---- the table

module _ (session : ℕ) (old new : Locks) where
  pub keeps_sessions : (name : List ℕ) → ChangesAt name (after_one session) old new → KeepsSessions old new
  keeps_sessions name change other = change_relates is_idle no_lock SameSessions itself name (after_one session) (one_idle session) (one_heard session) old new change other

  pub others_owed : (other : ℕ) (name : List ℕ) → other ≢ session → ChangesAt name (after_one session) old new → owed_to other new ≡ owed_to other old
  others_owed other name ne change = gathered_same is_idle no_lock (owed_for other) (idle_owes other) name (after_one session) old new change (lock_apart session other name ne change.lock)

  -- the session is owed the rest
  pub rest_owed : (x : LockNotice) → AscendByName old → NoneIdle old → slice_get (owed_to session old) 0 ≡ Some x → ChangesAt (name_told x) (after_one session) old new
      → owed_to session new ≡ drop 1 (owed_to session old)
  rest_owed x ascend none_idle first change =
      first_given is_idle no_lock (owed_for session) name_told (named_for session) (idle_owes session) (after_one session) old new x ascend none_idle first (λ l. lock_heard session (name_told x) l) change
