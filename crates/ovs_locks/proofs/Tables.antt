-- Tables of locks: one lock changed, and all of them.
use Rattle.std.proofs.Common.{◌≡◌, ℕ, List, [], ◌∷◌, ◌++◌, Bool, true, false, cond, Option, Some, None, refl, sym, ap, ◌∙◌}
use Rattle.std.specs.Prelude.{◌==◌, ◌≢◌, ◌||◌, not, map, unwrap_or, option_map, IsSome}
use Rattle.std.specs.declared.cmp.Ordering.{Ordering}
use Rattle.std.specs.declared.cmp.Ordering.TheVariants.{Less, Equal, Greater}
use Rattle.std.specs.Ordering.{nat_cmp, is_eq}
use Rattle.std.specs.Cmp.{eq_by_cmp_equiv}
use Rattle.std.specs.Cmp.Lexicographic.{slice_cmp, nat_list_cmp_total}
use Rattle.std.specs.FinMap.{nat_cmp-IsAntisymmetric, slice_cmp-IsAntisymmetric}
use Rattle.std.specs.List.Sorted.{IsStrictlySortedBy}
use Rattle.std.specs.Map.{lookup, keys_of, set_value}
use Rattle.std.specs.BTreeMap as tree
use Rattle.std.specs.BTreeMap.{BTreeMap, is_at}
use Rattle.std.proofs.lemmas.Map.{lookup-none}
use Rattle.std.proofs.lemmas.Map.Keys.{sorted_tail, IsDistinct-from_sorted}
use Rattle.std.proofs.lemmas.Map.Entries.{none_past_head}
use Rattle.std.proofs.lemmas.Map.Made.{lookup-map_values}
use Rattle.std.proofs.lemmas.Map.Steps.{set_value_same}
use Rattle.ovs_locks.specs.declared.waiter.Waiter.{Waiter}
use Rattle.ovs_locks.specs.Lock.{LockValue, no_lock, waiter, is_in, stands, is_first, dropped, granted, without, is_idle, heard, after_telling, notices_of, owed_in, owed_for}
use Rattle.ovs_locks.specs.ByName.{changed}
use Rattle.ovs_locks.proofs.Gathering.{gathered_changed, gathers_nothing}
use Rattle.ovs_locks.proofs.Idle.{idle_is_none, idle_owes}
use Rattle.ovs_locks.specs.LockTable.{Locks, lock_at, Becomes, owed_to}

pub tied : (o : Ordering) → is_eq o ≡ true → o ≡ Equal
tied Less e = absurd cc
tied Equal e = refl
tied Greater e = absurd cc

pub by_test : (b : Bool) → (b ≡ true → ⊥) → b ≡ false
by_test true n = absurd (n refl)
by_test false n = refl

-- another name is another key
pub apart : (name other : List ℕ) → other ≢ name → is_at (slice_cmp nat_cmp name) other ≡ false
apart name other n = by_test (is_eq (slice_cmp nat_cmp name other)) (λ e. n (sym (slice_cmp-IsAntisymmetric nat_cmp-IsAntisymmetric name other (tied (slice_cmp nat_cmp name other) e))))

-- what a change of one key makes of the locks
pub becomes : (name : List ℕ) (lock : LockValue) (m n : BTreeMap (List ℕ) LockValue)
    → tree.Updates (slice_cmp nat_cmp) m n name (Some lock) → Becomes m.entries name lock n.entries
becomes name lock m n u = (ap (λ o. unwrap_or o no_lock) u.1, λ other ne. ap (λ o. unwrap_or o no_lock) (u.2 other (apart name other ne)))

pub becomes_none : (name : List ℕ) (m n : BTreeMap (List ℕ) LockValue)
    → tree.Updates (slice_cmp nat_cmp) m n name None → Becomes m.entries name no_lock n.entries
becomes_none name m n u = (ap (λ o. unwrap_or o no_lock) u.1, λ other ne. ap (λ o. unwrap_or o no_lock) (u.2 other (apart name other ne)))

-- a second change of the same lock
pub becomes_twice : (a b c : Locks) (name : List ℕ) (x y : LockValue) → Becomes a name x b → Becomes b name y c → Becomes a name y c
becomes_twice a b c name x y p q = (q.0, λ other ne. q.1 other ne ∙ p.1 other ne)

-- ---- all locks

nothing_kept : (f : LockValue → LockValue) (test : List ℕ → Bool) (es : Locks) → lookup test es ≡ None → lookup test (changed is_idle f es) ≡ None
nothing_kept f test [] none = refl
nothing_kept f test (e ∷ es) none = at_head (test e.0) (is_idle (f e.1)) refl none (λ n. nothing_kept f test es n)
  where
    at_head : (b i : Bool) → test e.0 ≡ b → cond b (Some e.1) (lookup test es) ≡ None → (lookup test es ≡ None → lookup test (changed is_idle f es) ≡ None)
        → lookup test (cond i (changed is_idle f es) ((e.0, f e.1) ∷ changed is_idle f es)) ≡ None
    at_head true i p n more = absurd cc
    at_head false true p n more = more n
    at_head false false p n more = rw p (more n)

is_none_at : {X : Type 0} → (o : Option X) → (d : X) → o ≡ None → unwrap_or o d ≡ d
is_none_at o d e = ap (λ o. unwrap_or o d) e

-- each lock is what f makes of it, also those that are taken out
pub lock_at-kept : (f : LockValue → LockValue) → f no_lock ≡ no_lock → (name : List ℕ) (es : Locks) → IsStrictlySortedBy (slice_cmp nat_cmp) (keys_of es)
    → lock_at name (changed is_idle f es) ≡ f (lock_at name es)
lock_at-kept f none name [] s = sym none
lock_at-kept f none name (e ∷ es) s = at_head (is_at (slice_cmp nat_cmp name) e.0) (is_idle (f e.1)) refl refl (lock_at-kept f none name es (sorted_tail (slice_cmp nat_cmp) e.0 (keys_of es) s))
  where
    gone : is_at (slice_cmp nat_cmp name) e.0 ≡ true → lookup (is_at (slice_cmp nat_cmp name)) (changed is_idle f es) ≡ None
    gone p = nothing_kept f (is_at (slice_cmp nat_cmp name)) es (lookup-none (is_at (slice_cmp nat_cmp name)) es (none_past_head (eq_by_cmp_equiv nat_list_cmp_total) name e es (IsDistinct-from_sorted (slice_cmp nat_cmp) (keys_of (e ∷ es)) s) p))

    at_head : (b i : Bool) → is_at (slice_cmp nat_cmp name) e.0 ≡ b → is_idle (f e.1) ≡ i → lock_at name (changed is_idle f es) ≡ f (lock_at name es)
        → lock_at name (cond i (changed is_idle f es) ((e.0, f e.1) ∷ changed is_idle f es)) ≡ f (unwrap_or (cond b (Some e.1) (lookup (is_at (slice_cmp nat_cmp name)) es)) no_lock)
    at_head true true p q more = is_none_at (lookup (is_at (slice_cmp nat_cmp name)) (changed is_idle f es)) no_lock (gone p) ∙ sym (idle_is_none (f e.1) q)
    at_head true false p q more = rw p refl
    at_head false true p q more = more
    at_head false false p q more = rw p more

pub lock_at-map : (f : LockValue → LockValue) → f no_lock ≡ no_lock → (name : List ℕ) (es : Locks) → lock_at name (map (λ e. (e.0, f e.1)) es) ≡ f (lock_at name es)
lock_at-map f none name es = ap (λ o. unwrap_or o no_lock) (lookup-map_values f (is_at (slice_cmp nat_cmp name)) es) ∙ of (lookup (is_at (slice_cmp nat_cmp name)) es)
  where
    of : (o : Option LockValue) → unwrap_or (option_map f o) no_lock ≡ f (unwrap_or o no_lock)
    of None = sym none
    of (Some l) = refl

-- ---- what is told

alike : {A : Type 0} (b : Bool) (x : A) → cond b x x ≡ x
alike true x = refl
alike false x = refl

told_nothing : (session : ℕ) (name : List ℕ) (a : Waiter) (b : Bool) → (a.session == session) ≡ b
    → cond ((cond b (waiter session) a).session == session) (notices_of name (cond b (waiter session) a).owed) [] ≡ []
told_nothing session name a true e = alike (session == session) []
told_nothing session name a false e = rw e refl

owed_nothing : (session : ℕ) (name : List ℕ) (xs : List Waiter) → owed_in session name (heard session xs) ≡ []
owed_nothing session name [] = refl
owed_nothing session name (a ∷ xs) = ap (λ ns. ns ++ owed_in session name (heard session xs)) (told_nothing session name a (a.session == session) refl) ∙ owed_nothing session name xs

-- a session that was told all is owed nothing
pub told_all : (session : ℕ) (name : List ℕ) (l : LockValue) → owed_for session name (after_telling session l) ≡ []
told_all session name l = rw (owed_nothing session name l.queue, owed_nothing session name l.stolen) refl

pub all_told : (session : ℕ) (es : Locks) → owed_to session (map (λ e. (e.0, after_telling session e.1)) es) ≡ []
all_told session [] = refl
all_told session (e ∷ es) =
    ap (λ ns. (ns ++ owed_in session e.0 (heard session e.1.stolen)) ++ owed_to session (map (λ e. (e.0, after_telling session e.1)) es)) (owed_nothing session e.0 e.1.queue)
    ∙ ap (λ ns. ns ++ owed_to session (map (λ e. (e.0, after_telling session e.1)) es)) (owed_nothing session e.0 e.1.stolen)
    ∙ all_told session es

-- ---- a lock that was lent

pub there : {X : Type 0} (o : Option X) (x : X) → Some x ≡ o → IsSome o
there None x e = absurd cc
there (Some y) x e = refl

pub lent_is : (name : List ℕ) (lock : LockValue) (m : BTreeMap (List ℕ) LockValue) → Some lock ≡ tree.get_by (slice_cmp nat_cmp name) m → lock_at name m.entries ≡ lock
lent_is name lock m e = sym (ap (λ o. unwrap_or o no_lock) e)

-- what is written through the loan is what the lock becomes
pub written : (name : List ℕ) (lock new : LockValue) (f : LockValue → LockValue) (m n : BTreeMap (List ℕ) LockValue)
    → Some lock ≡ tree.get_by (slice_cmp nat_cmp name) m → tree.WritesThrough (slice_cmp nat_cmp) (slice_cmp nat_cmp name) m new n → new ≡ f lock
    → Becomes m.entries name (f (lock_at name m.entries)) n.entries
written name lock new f m n e w is =
    let at = becomes name new m n (w.3 (there (tree.get_by (slice_cmp nat_cmp name) m) lock e)) in
    (at.0 ∙ is ∙ ap f (sym (lent_is name lock m e)), at.1)

-- nothing changes where it is written back as it was
pub unwritten : (name : List ℕ) (lock new : LockValue) (m n : BTreeMap (List ℕ) LockValue)
    → Some lock ≡ tree.get_by (slice_cmp nat_cmp name) m → tree.WritesThrough (slice_cmp nat_cmp) (slice_cmp nat_cmp name) m new n → new ≡ lock
    → n.entries ≡ m.entries
unwritten name lock new m n e w is = w.0 ∙ ap (set_value (is_at (slice_cmp nat_cmp name)) m.entries) is ∙ set_value_same (is_at (slice_cmp nat_cmp name)) m.entries lock (sym e)

pub then_gone : (name : List ℕ) (l : LockValue) (a b d : Locks) → Becomes a name l b → is_idle l ≡ true → Becomes b name no_lock d → Becomes a name l d
then_gone name l a b d p i q = (q.0 ∙ sym (idle_is_none l i), λ other ne. q.1 other ne ∙ p.1 other ne)

-- ---- a session that left

-- it stands in no list
pub none_left : (session : ℕ) (xs : List Waiter) → is_in session (dropped session xs) ≡ false
none_left session [] = refl
none_left session (a ∷ xs) = by (a.session == session) refl (none_left session xs)
  where
    by : (b : Bool) → (a.session == session) ≡ b → is_in session (dropped session xs) ≡ false → is_in session (cond (not b) (a ∷ dropped session xs) (dropped session xs)) ≡ false
    by true e rest = rest
    by false e rest = rw e rest

in_granted : (session : ℕ) (now : Bool) (xs : List Waiter) → is_in session (granted now xs) ≡ is_in session xs
in_granted session now [] = refl
in_granted session true (a ∷ xs) = refl
in_granted session false (a ∷ xs) = refl

pub left : (session : ℕ) (l : LockValue) → stands session (without session l) ≡ false
left session l =
    ap (λ b. b || is_in session (dropped session l.stolen)) (in_granted session (is_first session l.queue) (dropped session l.queue) ∙ none_left session l.queue)
    ∙ none_left session l.stolen

-- what stands in no list is owed nothing
pub not_owed : (session : ℕ) (name : List ℕ) (xs : List Waiter) → is_in session xs ≡ false → owed_in session name xs ≡ []
not_owed session name [] none = refl
not_owed session name (a ∷ xs) none = by (a.session == session) refl none (not_owed session name xs)
  where
    by : (b : Bool) → (a.session == session) ≡ b → (b || is_in session xs) ≡ false → (is_in session xs ≡ false → owed_in session name xs ≡ []) → owed_in session name (a ∷ xs) ≡ []
    by true e none rest = absurd cc
    by false e none rest = rw e (rest none)

pub left_owed : (session : ℕ) (name : List ℕ) (l : LockValue) → owed_for session name (without session l) ≡ []
left_owed session name l =
    ap (λ ns. ns ++ owed_in session name (dropped session l.stolen))
    (not_owed session name (granted (is_first session l.queue) (dropped session l.queue)) (in_granted session (is_first session l.queue) (dropped session l.queue) ∙ none_left session l.queue))
    ∙ not_owed session name (dropped session l.stolen) (none_left session l.stolen)

pub none_owed : (session : ℕ) (es : Locks) → owed_to session (changed is_idle (without session) es) ≡ []
none_owed session es = gathered_changed is_idle no_lock (owed_for session) (idle_owes session) (without session) (λ name l. []) (λ name l. left_owed session name l) es ∙ gathers_nothing es
