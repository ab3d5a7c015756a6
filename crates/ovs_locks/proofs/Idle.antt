-- Which locks are idle.
use Rattle.std.proofs.Common.{◌≡◌, ℕ, List, [], ◌∷◌, ◌++◌, Bool, true, false, cond, ◌&&◌, refl, ap}
use Rattle.ovs_locks.specs.declared.waiter.Waiter.{Waiter}
use Rattle.ovs_locks.specs.declared.waiter.Asking.{Asking}
use Rattle.ovs_locks.specs.declared.waiter.Asking.TheVariants as asks
use Rattle.ovs_locks.specs.Lock.{LockValue, no_lock, waiter, asked, is_free, is_idle, stolen_from, heard, after_telling, heard_first, after_one, first_due, is_due, awaits, told_first, owed_for}

pub not_free : (q : List Waiter) (a : Waiter) → is_free (q ++ a ∷ []) ≡ false
not_free [] a = refl
not_free (x ∷ q) a = refl

pub not_free_stolen : (session : ℕ) (q s : List Waiter) → is_free (stolen_from session q s).queue ≡ false
not_free_stolen session [] s = refl
not_free_stolen session (x ∷ q) s = refl

-- one that was asked for isn't
pub busy : (how : Asking) (session : ℕ) (l : LockValue) → is_idle (asked how session l) ≡ false
busy asks.Lock session l = rw (not_free l.queue (waiter session)) refl
busy asks.Steal session l = rw (not_free_stolen session l.queue l.stolen) refl

-- nobody stands in it, so nobody is owed anything
pub idle_is_none : (l : LockValue) → is_idle l ≡ true → l ≡ no_lock
idle_is_none l e = of l.queue l.stolen e
  where
    of : (q s : List Waiter) → (is_free q && is_free s) ≡ true → record { queue = q; stolen = s } ≡ no_lock
    of [] [] e = refl
    of [] (a ∷ s) e = absurd cc
    of (a ∷ q) s e = absurd cc

pub idle_owes : (session : ℕ) (name : List ℕ) (l : LockValue) → is_idle l ≡ true → owed_for session name l ≡ []
idle_owes session name l e = ap (owed_for session name) (idle_is_none l e)

-- what is told changes nothing in that
heard_free : (session : ℕ) (xs : List Waiter) → is_free (heard session xs) ≡ is_free xs
heard_free session [] = refl
heard_free session (a ∷ xs) = refl

pub telling_idle : (session : ℕ) (l : LockValue) → is_idle (after_telling session l) ≡ is_idle l
telling_idle session l = rw (heard_free session l.queue, heard_free session l.stolen) refl

first_free : (session : ℕ) (xs : List Waiter) → is_free (heard_first session xs) ≡ is_free xs
first_free session [] = refl
first_free session (a ∷ xs) = by (awaits session a)
  where
    by : (b : Bool) → is_free (cond b (told_first a ∷ xs) (a ∷ heard_first session xs)) ≡ false
    by true = refl
    by false = refl

pub one_idle : (session : ℕ) (l : LockValue) → is_idle (after_one session l) ≡ is_idle l
one_idle session l = by (is_due (first_due session l.queue))
  where
    by : (b : Bool) → (is_free (heard_first session l.queue) && is_free (cond b l.stolen (heard_first session l.stolen))) ≡ (is_free l.queue && is_free l.stolen)
    by true = rw (first_free session l.queue) refl
    by false = rw (first_free session l.queue, first_free session l.stolen) refl
