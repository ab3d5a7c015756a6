-- Where sessions stand, and that others don't come to stand anywhere by what one of them asks.
use Rattle.std.proofs.Common.{◌≡◌, ℕ, List, [], ◌∷◌, ◌++◌, Bool, true, false, cond, ◌||◌, Some, None, refl, sym, ap, ◌∙◌}
use Rattle.std.specs.Prelude.{◌≢◌, ◌==◌, not, unwrap_or}
use Rattle.std.specs.BTreeMap.{is_at}
use Rattle.std.specs.Cmp.{eq_by_cmp_equiv, tied_itself}
use Rattle.std.specs.Cmp.Lexicographic.{slice_cmp, nat_list_cmp_total}
use Rattle.std.specs.Map.{lookup, keys_of}
use Rattle.std.specs.Ordering.{nat_cmp, is_eq}
use Rattle.std.proofs.lemmas.Bool.{ne_eqb}
use Rattle.std.proofs.lemmas.List.Folds.{list_any-append}
use Rattle.std.proofs.lemmas.Map.{lookup-none}
use Rattle.std.proofs.lemmas.Map.Entries.{none_past_head}
use Rattle.std.proofs.lemmas.Map.Keys.{sorted_tail, IsDistinct-from_sorted}
use Rattle.ovs_locks.specs.declared.waiter.Waiter.{Waiter}
use Rattle.ovs_locks.specs.Lock.{LockValue, no_lock, is_who, is_in, is_first, stands, waiter, robbed, appended, stolen_from, stolen_by, dropped, granted, without, owed_for}
use Rattle.ovs_locks.specs.LockTable.{Locks, AscendByName, lock_at, owed_to, stands_somewhere}
use Rattle.ovs_locks.proofs.Tables.{not_owed}

neither : (a b : Bool) → (a || b) ≡ false → (a ≡ false) × (b ≡ false)
neither true b e = absurd cc
neither false b e = (refl, e)

both_not : (a b : Bool) → a ≡ false → b ≡ false → (a || b) ≡ false
both_not a b e f = rw (e, f) refl

-- ---- all locks

abbrev test : List ℕ → List ℕ → Bool
test name = is_at (slice_cmp nat_cmp name)

pub own_name : (name : List ℕ) → test name name ≡ true
own_name name = ap is_eq (tied_itself nat_list_cmp_total name)

-- who stands nowhere stands in no lock of a name
pub stands_nowhere : (session : ℕ) (locks : Locks) → stands_somewhere session locks ≡ false → (name : List ℕ) → stands session (lock_at name locks) ≡ false
stands_nowhere session [] none name = refl
stands_nowhere session (e ∷ es) none name =
    let n = neither (stands session e.1) (stands_somewhere session es) none in
    elim (test name e.0) as (λ b. stands session (unwrap_or (cond b (Some e.1) (lookup (test name) es)) no_lock) ≡ false) [
      | true ↦ n.0
      | false ↦ stands_nowhere session es n.1 name
    ]

pub not_owed_for : (session : ℕ) (name : List ℕ) (l : LockValue) → stands session l ≡ false → owed_for session name l ≡ []
not_owed_for session name l none =
    let n = neither (is_in session l.queue) (is_in session l.stolen) none in
    rw (not_owed session name l.queue n.0, not_owed session name l.stolen n.1) refl

-- who stands in no lock of a name stands nowhere, and is owed nothing
pub quiet : (session : ℕ) (locks : Locks) → AscendByName locks → ((name : List ℕ) → stands session (lock_at name locks) ≡ false)
    → (stands_somewhere session locks ≡ false) × (owed_to session locks ≡ [])
quiet session [] ascend none = (refl, refl)
quiet session (e ∷ es) ascend none =
    let later = quiet session es (sorted_tail (slice_cmp nat_cmp) e.0 (keys_of es) ascend) (λ name. by name (test name e.0) refl (none name)) in
    (both_not (stands session e.1) (stands_somewhere session es) here later.0, rw (not_owed_for session e.0 e.1 here, later.1) refl)
  where
    here : stands session e.1 ≡ false
    here = rw (own_name e.0) at (none e.0)

    gone : (name : List ℕ) → test name e.0 ≡ true → lookup (test name) es ≡ None
    gone name at = lookup-none (test name) es (none_past_head (eq_by_cmp_equiv nat_list_cmp_total) name e es (IsDistinct-from_sorted (slice_cmp nat_cmp) (keys_of (e ∷ es)) ascend) at)

    by : (name : List ℕ) (b : Bool) → test name e.0 ≡ b → stands session (unwrap_or (cond b (Some e.1) (lookup (test name) es)) no_lock) ≡ false → stands session (lock_at name es) ≡ false
    by name true at h = rw (gone name at) refl
    by name false at h = h

-- ---- one lock

another : (session other : ℕ) → other ≢ session → (session == other) ≡ false
another session other apart = ne_eqb session other (λ e. apart (sym e))

module _ (session other : ℕ) (apart : other ≢ session) where
  in_last : (xs : List Waiter) → is_in other xs ≡ false → is_in other (xs ++ waiter session ∷ []) ≡ false
  in_last xs none = list_any-append (is_who other) xs (waiter session ∷ []) ∙ rw (none, another session other apart) refl

  stolen_from_alone : (queue stolen : List Waiter) → is_in other queue ≡ false → is_in other stolen ≡ false → stands other (stolen_from session queue stolen) ≡ false
  stolen_from_alone [] stolen q s = rw (another session other apart, s) refl
  stolen_from_alone (a ∷ later) stolen q s =
      let n = neither (a.session == other) (is_in other later) q in
      let moved : is_in other (stolen ++ robbed a ∷ []) ≡ false = list_any-append (is_who other) stolen (robbed a ∷ []) ∙ rw (s, n.0) refl in
      rw (another session other apart, n.1, moved) refl

  -- what one session asks makes no other stand
  pub appended_alone : (l : LockValue) → stands other l ≡ false → stands other (appended session l) ≡ false
  appended_alone l none =
      let n = neither (is_in other l.queue) (is_in other l.stolen) none in
      rw (in_last l.queue n.0, n.1) refl

  pub stolen_alone : (l : LockValue) → stands other l ≡ false → stands other (stolen_by session l) ≡ false
  stolen_alone l none =
      let n = neither (is_in other l.queue) (is_in other l.stolen) none in
      stolen_from_alone l.queue l.stolen n.0 n.1

pub in_dropped : (session other : ℕ) (xs : List Waiter) → is_in other xs ≡ false → is_in other (dropped session xs) ≡ false
in_dropped session other [] none = refl
in_dropped session other (a ∷ xs) none =
    let n = neither (a.session == other) (is_in other xs) none in
    elim (a.session == session) as (λ b. is_in other (cond (not b) (a ∷ dropped session xs) (dropped session xs)) ≡ false) [
      | true ↦ in_dropped session other xs n.1
      | false ↦ rw (n.0, in_dropped session other xs n.1) refl
    ]

in_granted : (now : Bool) (other : ℕ) (xs : List Waiter) → is_in other xs ≡ false → is_in other (granted now xs) ≡ false
in_granted now other [] none = refl
in_granted true other (a ∷ xs) none = none
in_granted false other (a ∷ xs) none = none

-- nor does it when one leaves
pub without_alone : (session other : ℕ) (l : LockValue) → stands other l ≡ false → stands other (without session l) ≡ false
without_alone session other l none =
    let n = neither (is_in other l.queue) (is_in other l.stolen) none in
    rw (in_granted (is_first session l.queue) other (dropped session l.queue) (in_dropped session other l.queue n.0), in_dropped session other l.stolen n.1) refl
