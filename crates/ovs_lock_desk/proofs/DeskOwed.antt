-- What each step of a lock leaves to those that are owed something for it.
use Rattle.std.proofs.Common.{◌≡◌, ℕ, List, [], ◌∷◌, ◌++◌, Bool, true, false, cond, ◌||◌, ◌&&◌, Option, Some, None, refl, sym, ap, subst, ◌∙◌, drop}
use Rattle.std.specs.Prelude.{◌≢◌, ◌==◌, not, map, filter, slice_get}
use Rattle.std.proofs.Common.{arith, eqb-true}
use Rattle.std.proofs.lemmas.Bool.{ne_eqb}
use Rattle.std.proofs.lemmas.Bool.Decides.{nat_tests}
use Rattle.serde_json.specs.Data.{Data}
use Rattle.ovs_locks.specs.declared.waiter.Waiter.{Waiter}
use Rattle.ovs_lock_desk.specs.declared.lock_state.LockState.{LockState}
use Rattle.ovs_lock_desk.specs.declared.lock_state.LockState.TheVariants.{Idle, Sent, Waiting, Held}
use Rattle.ovs_lock_desk.specs.declared.lock_state.NextAsk.TheVariants as due
use Rattle.ovs_lock_desk.specs.declared.lock_state.LockEvent.TheVariants as events
use Rattle.ovs_lock_desk.specs.declared.lock_state.LockVerb.{LockVerb}
use Rattle.ovs_lock_desk.specs.declared.lock_state.LockVerb.TheVariants as verbs
use Rattle.ovs_lock_desk.specs.declared.pending_steal.PendingSteal.{PendingSteal}
use Rattle.ovs_locks.specs.declared.notice.LockNotice.{LockNotice}
use Rattle.ovs_locks.specs.Lock.{LockValue, is_in, is_free, is_idle, stands, put_first, without, forgotten, name_told}
use Rattle.ovs_lock_desk.specs.LockState.{is_held, is_still, state_as_lock}
use Rattle.ovs_lock_desk.specs.PendingSteal.{is_open, is_of, is_own_open, is_due_late, late_of, without_one, is_empty_late}
use Rattle.ovs_lock_desk.specs.RelayLock.{RelayLockValue, no_relay_lock, is_desk_idle, own_steal_open, left, stolen_here, asked_here, answer_here, step}
use Rattle.ovs_lock_desk.specs.LockDesk.{answers_here, notices_here, open_here}
use Rattle.ovs_locks.proofs.NextNotice.{lock_heard, lock_apart, one_heard, named_for}
use Rattle.ovs_locks.proofs.Standing.{appended_alone, stolen_alone, without_alone, in_dropped, not_owed_for}
use Rattle.ovs_locks.proofs.Tables.{none_left}
use Rattle.ovs_locks.proofs.Tables as tables

-- ---- an idle lock owes nothing

pub both : (a b : Bool) → (a && b) ≡ true → (a ≡ true) × (b ≡ true)
both true b e = (refl, e)
both false b e = absurd cc

no_askers : (xs : List Waiter) → is_free xs ≡ true → xs ≡ []
no_askers [] e = refl
no_askers (a ∷ xs) e = absurd cc

no_late : (xs : List PendingSteal) → is_empty_late xs ≡ true → xs ≡ []
no_late [] e = refl
no_late (a ∷ xs) e = absurd cc

-- what an idle lock is
pub record Idles (l : RelayLockValue) : Type 0 where
  pub queue : l.lock.queue ≡ []
  pub stolen : l.lock.stolen ≡ []
  pub late : l.late ≡ []

pub idles : (l : RelayLockValue) → is_desk_idle l ≡ true → Idles l
idles l e =
    let a = both (is_idle l.lock) (is_empty_late l.late && is_still l.state) e in
    let b = both (is_free l.lock.queue) (is_free l.lock.stolen) a.0 in
    let c = both (is_empty_late l.late) (is_still l.state) a.1 in
    record { queue = no_askers l.lock.queue b.0; stolen = no_askers l.lock.stolen b.1; late = no_late l.late c.0 }

still_course : (c : LockState) → is_still c ≡ true → c ≡ Idle due.Nothing
still_course (Idle due.Nothing) e = refl
still_course (Idle due.Lock) e = absurd cc
still_course (Idle due.Steal) e = absurd cc
still_course (Idle due.Unlock) e = absurd cc
still_course (Idle due.UnlockLock) e = absurd cc
still_course (Idle due.UnlockSteal) e = absurd cc
still_course (Sent n) e = absurd cc
still_course Waiting e = absurd cc
still_course Held e = absurd cc

-- there is but one
pub idle_is_none : (l : RelayLockValue) → is_desk_idle l ≡ true → l ≡ no_relay_lock
idle_is_none l e =
    let i = idles l e in
    let state : l.state ≡ Idle due.Nothing = still_course l.state (both (is_empty_late l.late) (is_still l.state) (both (is_idle l.lock) (is_empty_late l.late && is_still l.state) e).1).1 in
    λ j. record { lock = record { queue = i.queue j; stolen = i.stolen j }; late = i.late j; state = state j }

pub open_idle : (session : ℕ) (name : List ℕ) (l : RelayLockValue) → is_desk_idle l ≡ true → open_here session name l ≡ []
open_idle session name l e = let i = idles l e in rw i.late refl

pub answers_idle : (session : ℕ) (name : List ℕ) (l : RelayLockValue) → is_desk_idle l ≡ true → answers_here session name l ≡ []
answers_idle session name l e = let i = idles l e in rw i.late refl

pub notices_idle : (session : ℕ) (name : List ℕ) (l : RelayLockValue) → is_desk_idle l ≡ true → notices_here session name l ≡ []
notices_idle session name l e = let i = idles l e in rw (i.queue, i.stolen) refl

pub nothing_told : (session : ℕ) (name : List ℕ) (l : RelayLockValue) → stands session l.lock ≡ false → notices_here session name l ≡ []
nothing_told session name l e = not_owed_for session name l.lock e

-- ---- lists

pub filter_last : {X : Type 0} (p : X → Bool) (xs : List X) (x : X) → p x ≡ false → filter p (xs ++ x ∷ []) ≡ filter p xs
filter_last p [] x e = rw e refl
filter_last p (y ∷ xs) x e = by (p y) (filter_last p xs x e)
  where
    by : (b : Bool) → filter p (xs ++ x ∷ []) ≡ filter p xs → cond b (y ∷ filter p (xs ++ x ∷ [])) (filter p (xs ++ x ∷ [])) ≡ cond b (y ∷ filter p xs) (filter p xs)
    by true rest = ap (λ zs. y ∷ zs) rest
    by false rest = rest

pub filter_more : {X : Type 0} (p : X → Bool) (xs : List X) (x : X) → p x ≡ true → filter p (xs ++ x ∷ []) ≡ filter p xs ++ x ∷ []
filter_more p [] x e = rw e refl
filter_more p (y ∷ xs) x e = by (p y) (filter_more p xs x e)
  where
    by : (b : Bool) → filter p (xs ++ x ∷ []) ≡ filter p xs ++ x ∷ [] → cond b (y ∷ filter p (xs ++ x ∷ [])) (filter p (xs ++ x ∷ [])) ≡ cond b (y ∷ filter p xs) (filter p xs) ++ x ∷ []
    by true rest = ap (λ zs. y ∷ zs) rest
    by false rest = rest

pub map_last : {X Y : Type 0} (f : X → Y) (xs : List X) (x : X) → map f (xs ++ x ∷ []) ≡ map f xs ++ f x ∷ []
map_last f [] x = refl
map_last f (y ∷ xs) x = ap (λ zs. f y ∷ zs) (map_last f xs x)

-- those that pass one test all pass the other, so that it takes none of them out
pub filter_twice : {X : Type 0} (p q : X → Bool) → ((x : X) → p x ≡ true → q x ≡ true) → (xs : List X) → filter p (filter q xs) ≡ filter p xs
filter_twice p q all [] = refl
filter_twice {X} p q all (x ∷ xs) = by (p x) (q x) refl refl (filter_twice p q all xs)
  where
    by : (b c : Bool) → p x ≡ b → q x ≡ c → filter p (filter q xs) ≡ filter p xs → filter p (cond c (x ∷ filter q xs) (filter q xs)) ≡ cond b (x ∷ filter p xs) (filter p xs)
    by true true is so rest = rw is (ap (λ (zs : List X). x ∷ zs) rest)
    by false true is so rest = rw is rest
    by true false is so rest = absurd (let clash = sym so ∙ all x is in cc)
    by false false is so rest = rest

-- none that passes is left
pub filter_none : {X : Type 0} (p q : X → Bool) → ((x : X) → q x ≡ true → p x ≡ false) → (xs : List X) → filter p (filter q xs) ≡ []
filter_none p q none [] = refl
filter_none p q none (x ∷ xs) = by (q x) refl (filter_none p q none xs)
  where
    by : (c : Bool) → q x ≡ c → filter p (filter q xs) ≡ [] → filter p (cond c (x ∷ filter q xs) (filter q xs)) ≡ []
    by true so rest = rw (none x so) rest
    by false so rest = rest

pub filter_without : {X : Type 0} (p q : X → Bool) → ((x : X) → q x ≡ true → p x ≡ false) → (xs : List X) → filter p (without_one q xs) ≡ filter p xs
filter_without p q none [] = refl
filter_without {X} p q none (x ∷ xs) = by (q x) refl (filter_without p q none xs)
  where
    by : (c : Bool) → q x ≡ c → filter p (without_one q xs) ≡ filter p xs → filter p (cond c xs (x ∷ without_one q xs)) ≡ cond (p x) (x ∷ filter p xs) (filter p xs)
    by true so rest = rw (none x so) refl
    by false so rest = ap (λ (zs : List X). cond (p x) (x ∷ zs) zs) rest

pub filter_first : {X : Type 0} (p : X → Bool) (xs : List X) → filter p (without_one p xs) ≡ drop 1 (filter p xs)
filter_first p [] = refl
filter_first p (x ∷ xs) = by (p x) refl (filter_first p xs)
  where
    by : (c : Bool) → p x ≡ c → filter p (without_one p xs) ≡ drop 1 (filter p xs) → filter p (cond c xs (x ∷ without_one p xs)) ≡ drop 1 (cond c (x ∷ filter p xs) (filter p xs))
    by true so rest = refl
    by false so rest = rw so rest

pub map_drop : {X Y : Type 0} (f : X → Y) (xs : List X) → map f (drop 1 xs) ≡ drop 1 (map f xs)
map_drop f [] = refl
map_drop f (x ∷ xs) = refl

-- ---- whose it is

pub another : (session other : ℕ) → other ≢ session → (session == other) ≡ false
another session other apart = ne_eqb session other (λ e. apart (sym e))

-- ---- asking

module _ (has_source : Bool) (session : ℕ) (id : Data) (l : RelayLockValue) where
  -- where the answer is known at once, no late answer is owed for it
  pub late_same : (verb : LockVerb) (won : Bool) → Some won ≡ answer_here verb l → (asked_here has_source session verb id l).late ≡ l.late
  late_same verbs.Lock won e = refl
  late_same verbs.Unlock won e = refl
  late_same verbs.Steal won e = by (is_held l.state) refl e
    where
      by : (b : Bool) → is_held l.state ≡ b → Some won ≡ cond b (Some true) None → (stolen_here session id l).late ≡ l.late
      by true is e = rw is refl
      by false is e = absurd cc

  -- else it comes late
  pub late_more : (verb : LockVerb) → None ≡ answer_here verb l → (asked_here has_source session verb id l).late ≡ l.late ++ late_of session id ∷ []
  late_more verbs.Lock e = absurd cc
  late_more verbs.Unlock e = absurd cc
  late_more verbs.Steal e = by (is_held l.state) refl e
    where
      by : (b : Bool) → is_held l.state ≡ b → None ≡ cond b (Some true) None → (stolen_here session id l).late ≡ l.late ++ late_of session id ∷ []
      by true is e = absurd cc
      by false is e = rw is refl

  late_either : (verb : LockVerb) (P : List PendingSteal → Type 0) → P l.late → P (l.late ++ late_of session id ∷ []) → P (asked_here has_source session verb id l).late
  late_either verb P same more = by (answer_here verb l) refl
    where
      by : (o : Option Bool) → answer_here verb l ≡ o → P (asked_here has_source session verb id l).late
      by (Some won) is = subst P (sym (late_same verb won (sym is))) same
      by None is = subst P (sym (late_more verb (sym is))) more

  -- nobody's known answers change, and no other session waits for more
  pub answers_asked : (verb : LockVerb) (x : ℕ) (name : List ℕ) → answers_here x name (asked_here has_source session verb id l) ≡ answers_here x name l
  answers_asked verb x name =
      ap (map (λ late. (name, late))) (late_either verb (λ late. filter (is_due_late x) late ≡ filter (is_due_late x) l.late) refl (filter_last (is_due_late x) l.late (late_of session id) refl))

  pub open_asked : (verb : LockVerb) (other : ℕ) (name : List ℕ) → other ≢ session → open_here other name (asked_here has_source session verb id l) ≡ open_here other name l
  open_asked verb other name apart =
      ap (map (λ (late : PendingSteal). late.id)) (late_either verb (λ late. filter (is_own_open other) late ≡ filter (is_own_open other) l.late) refl
      (filter_last (is_own_open other) l.late (late_of session id) (another session other apart)))

  pub open_same : (verb : LockVerb) (won : Bool) (x : ℕ) (name : List ℕ) → Some won ≡ answer_here verb l → open_here x name (asked_here has_source session verb id l) ≡ open_here x name l
  open_same verb won x name e = ap (λ (late : List PendingSteal). map (λ (z : PendingSteal). z.id) (filter (is_own_open x) late)) (late_same verb won e)

  own : (session == session) ≡ true
  own = grind (arith, nat_tests)

  pub open_more : (verb : LockVerb) (name : List ℕ) → None ≡ answer_here verb l → open_here session name (asked_here has_source session verb id l) ≡ open_here session name l ++ id ∷ []
  open_more verb name e =
      ap (λ (late : List PendingSteal). map (λ (z : PendingSteal). z.id) (filter (is_own_open session) late)) (late_more verb e)
      ∙ ap (map (λ (z : PendingSteal). z.id)) (filter_more (is_own_open session) l.late (late_of session id) own)
      ∙ map_last (λ (z : PendingSteal). z.id) (filter (is_own_open session) l.late) (late_of session id)

  -- ---- who stands in it

  neither : (a b : Bool) → (a || b) ≡ false → (a ≡ false) × (b ≡ false)
  neither true b e = absurd cc
  neither false b e = (refl, e)

pub forgotten_alone : (session other : ℕ) (l : LockValue) → stands other l ≡ false → stands other (forgotten session l) ≡ false
forgotten_alone session other l none = by (is_in other l.queue) (is_in other l.stolen) refl refl none
  where
    by : (a b : Bool) → is_in other l.queue ≡ a → is_in other l.stolen ≡ b → (a || b) ≡ false → stands other (forgotten session l) ≡ false
    by true b p q e = absurd cc
    by false true p q e = absurd cc
    by false false p q e = rw (in_dropped session other l.queue p, in_dropped session other l.stolen q) refl

pub left_alone : (session other : ℕ) (c : LockState) (l : LockValue) → stands other l ≡ false → stands other (left session c l) ≡ false
left_alone session other c l none = by (is_held c)
  where
    by : (b : Bool) → stands other (cond b (without session l) (forgotten session l)) ≡ false
    by true = without_alone session other l none
    by false = forgotten_alone session other l none

left_gone : (session : ℕ) (c : LockState) (l : LockValue) → stands session (left session c l) ≡ false
left_gone session c l = by (is_held c)
  where
    by : (b : Bool) → stands session (cond b (without session l) (forgotten session l)) ≡ false
    by true = tables.left session l
    by false = rw (none_left session l.queue, none_left session l.stolen) refl

pub stands_unlocked : (session : ℕ) (l : RelayLockValue) → stands session (step (events.Unlocked session) l).lock ≡ false
stands_unlocked session l = left_gone session l.state l.lock

put_alone : (session other : ℕ) (l : LockValue) → other ≢ session → stands other l ≡ false → stands other (put_first session l) ≡ false
put_alone session other l apart none = rw (another session other apart) none

-- what one session asks makes no other stand
pub stands_asked : (has_source : Bool) (session : ℕ) (verb : LockVerb) (id : Data) (other : ℕ) → other ≢ session → (l : RelayLockValue)
    → stands other l.lock ≡ false → stands other (asked_here has_source session verb id l).lock ≡ false
stands_asked has_source session verbs.Lock id other apart l none = appended_alone session other apart l.lock none
stands_asked has_source session verbs.Unlock id other apart l none = left_alone session other l.state l.lock none
stands_asked has_source session verbs.Steal id other apart l none = by (is_held l.state) refl
  where
    by : (b : Bool) → is_held l.state ≡ b → stands other (stolen_here session id l).lock ≡ false
    by true is = rw is (stolen_alone session other apart l.lock none)
    by false is = rw is (put_alone session other l.lock apart none)

-- ---- a session that ended

not_of : (session : ℕ) (e : PendingSteal) → not (is_of session e) ≡ true → is_of session e ≡ false
not_of session e n = by (is_of session e) n
  where
    by : (b : Bool) → not b ≡ true → b ≡ false
    by true n = absurd cc
    by false n = refl

other_stays : (session other : ℕ) (e : PendingSteal) → other ≢ session → is_of other e ≡ true → not (is_of session e) ≡ true
other_stays session other e apart is = ap not (by (is_of session e) refl)
  where
    by : (b : Bool) → is_of session e ≡ b → b ≡ false
    by true same = absurd (apart (sym (eqb-true e.session other is) ∙ eqb-true e.session session same))
    by false same = refl

module _ (session : ℕ) (l : RelayLockValue) where
  pub open_ended : (name : List ℕ) → open_here session name (step (events.Ended session) l) ≡ []
  open_ended name = ap (map (λ (z : PendingSteal). z.id)) (filter_none (is_own_open session) (λ e. not (is_of session e)) (λ e n. and_false (is_open e) (is_of session e) (not_of session e n)) l.late)
    where
      and_false : (a b : Bool) → b ≡ false → (a && b) ≡ false
      and_false true b e = e
      and_false false b e = refl

  pub answers_ended : (name : List ℕ) → answers_here session name (step (events.Ended session) l) ≡ []
  answers_ended name = ap (map (λ late. (name, late))) (filter_none (is_due_late session) (λ e. not (is_of session e)) (λ e n. and_false (not (is_open e)) (is_of session e) (not_of session e n)) l.late)
    where
      and_false : (a b : Bool) → b ≡ false → (a && b) ≡ false
      and_false true b e = e
      and_false false b e = refl

  pub open_ended_other : (other : ℕ) (name : List ℕ) → other ≢ session → open_here other name (step (events.Ended session) l) ≡ open_here other name l
  open_ended_other other name apart =
      ap (map (λ (z : PendingSteal). z.id)) (filter_twice (is_own_open other) (λ e. not (is_of session e)) (λ e is. other_stays session other e apart (both (is_open e) (is_of other e) is).1) l.late)

  pub answers_ended_other : (other : ℕ) (name : List ℕ) → other ≢ session → answers_here other name (step (events.Ended session) l) ≡ answers_here other name l
  answers_ended_other other name apart =
      ap (map (λ late. (name, late))) (filter_twice (is_due_late other) (λ e. not (is_of session e)) (λ e is. other_stays session other e apart (both (not (is_open e)) (is_of other e) is).1) l.late)

  state_ended : LockState
  state_ended = cond (own_steal_open session l) (state_as_lock l.state) l.state

  pub stands_ended : stands session (step (events.Ended session) l).lock ≡ false
  unfolding state_ended
  stands_ended = left_gone session state_ended l.lock

  pub stands_ended_other : (other : ℕ) → stands other l.lock ≡ false → stands other (step (events.Ended session) l).lock ≡ false
  unfolding state_ended
  stands_ended_other other none = left_alone session other state_ended l.lock none

-- ---- what is told

module _ (session : ℕ) (name : List ℕ) (l : RelayLockValue) where
  pub answer_given : answers_here session name (step (events.AnswerTold session) l) ≡ drop 1 (answers_here session name l)
  answer_given = ap (map (λ late. (name, late))) (filter_first (is_due_late session) l.late) ∙ map_drop (λ late. (name, late)) (filter (is_due_late session) l.late)

  not_open : (e : PendingSteal) (x : ℕ) → is_due_late session e ≡ true → is_own_open x e ≡ false
  not_open e x due = by (is_open e) refl due
    where
      by : (b : Bool) → is_open e ≡ b → (not b && is_of session e) ≡ true → is_own_open x e ≡ false
      by true is due = absurd cc
      by false is due = rw is refl

  pub open_told : (x : ℕ) → open_here x name (step (events.AnswerTold session) l) ≡ open_here x name l
  open_told x = ap (map (λ (z : PendingSteal). z.id)) (filter_without (is_own_open x) (is_due_late session) (λ e due. not_open e x due) l.late)

  not_due : (e : PendingSteal) (other : ℕ) → other ≢ session → is_due_late session e ≡ true → is_due_late other e ≡ false
  not_due e other apart due = by (is_of other e) refl
    where
      by : (b : Bool) → is_of other e ≡ b → is_due_late other e ≡ false
      by true is = absurd (apart (sym (eqb-true e.session other is) ∙ eqb-true e.session session (both (not (is_open e)) (is_of session e) due).1))
      by false is = and_false (not (is_open e)) (is_of other e) is
        where
          and_false : (a b : Bool) → b ≡ false → (a && b) ≡ false
          and_false true b e = e
          and_false false b e = refl

  pub answer_told_other : (other : ℕ) → other ≢ session → answers_here other name (step (events.AnswerTold session) l) ≡ answers_here other name l
  answer_told_other other apart = ap (map (λ late. (name, late))) (filter_without (is_due_late other) (is_due_late session) (λ e due. not_due e other apart due) l.late)

  pub notice_given : notices_here session name (step (events.NoticeTold session) l) ≡ drop 1 (notices_here session name l)
  notice_given = lock_heard session name l.lock

  pub notice_told_other : (other : ℕ) → other ≢ session → notices_here other name (step (events.NoticeTold session) l) ≡ notices_here other name l
  notice_told_other other apart = lock_apart session other name apart l.lock

  pub stands_told : (x : ℕ) → stands x (step (events.NoticeTold session) l).lock ≡ stands x l.lock
  stands_told x = (one_heard session l.lock).same_standing x

-- the name of the lock for which an answer is owed
pub named_answer : (session : ℕ) (name : List ℕ) (l : RelayLockValue) (x : List ℕ × PendingSteal) → slice_get (answers_here session name l) 0 ≡ Some x → x.0 ≡ name
named_answer session name l x e = of (filter (is_due_late session) l.late) e
  where
    of : (late : List PendingSteal) → slice_get (map (λ (z : PendingSteal). let p : List ℕ × PendingSteal = (name, z) in p) late) 0 ≡ Some x → x.0 ≡ name
    of [] e = absurd cc
    of (z ∷ late) e = (let first : Some (let p : List ℕ × PendingSteal = (name, z) in p) ≡ Some x = e in let same : (let p : List ℕ × PendingSteal = (name, z) in p) ≡ x = cc in ap (λ (p : List ℕ × PendingSteal). p.0) (sym same))

pub named_notice : (session : ℕ) (name : List ℕ) (l : RelayLockValue) (x : LockNotice) → slice_get (notices_here session name l) 0 ≡ Some x → name_told x ≡ name
named_notice session name l x e = named_for session name l.lock x e
