-- What is gathered from locks by name, before and after one of them changed, or all.
use Rattle.std.proofs.Common.{◌≡◌, ℕ, List, [], ◌∷◌, ◌++◌, Bool, true, false, cond, ◌||◌, Option, Some, None, refl, sym, ap, subst, ◌∙◌, append_assoc, drop}
use Rattle.std.specs.Prelude.{unwrap_or, slice_get, is_some}
use Rattle.std.specs.Cmp.{eq_by_cmp_equiv, tied_itself}
use Rattle.std.specs.Cmp.Lexicographic.{slice_cmp, nat_list_cmp_total}
use Rattle.std.specs.List.{list_any}
use Rattle.std.specs.Map.{lookup, keys_of}
use Rattle.std.specs.Ordering.{nat_cmp, is_eq}
use Rattle.std.specs.BTreeMap.{is_at}
use Rattle.std.proofs.lemmas.List.{append-nil}
use Rattle.std.proofs.lemmas.Map.{lookup-none}
use Rattle.std.proofs.lemmas.Map.Entries.{none_past_head}
use Rattle.std.proofs.lemmas.Map.Keys.{sorted_tail, IsDistinct-from_sorted}
use Rattle.ovs_locks.specs.ByName.{ByName, Ascends, NoneIdle, named, kept, ChangesAt, changed, gathered}
use Rattle.ovs_locks.proofs.ByName.{none_idle_front, busy_kept}

-- ---- lists

pub first_front : {X : Type 0} (xs ys : List X) (x : X) → slice_get xs 0 ≡ Some x → slice_get (xs ++ ys) 0 ≡ Some x
first_front [] ys x e = absurd cc
first_front (z ∷ xs) ys x e = e

pub no_first : {X : Type 0} (xs : List X) → slice_get xs 0 ≡ None → xs ≡ []
no_first [] e = refl
no_first (z ∷ xs) e = absurd cc

pub gathered_append : {L X : Type 0} (g : List ℕ → L → List X) (xs ys : ByName L) → gathered g (xs ++ ys) ≡ gathered g xs ++ gathered g ys
gathered_append g [] ys = refl
gathered_append {L} {X} g (e ∷ xs) ys = ap (λ (zs : List X). g e.0 e.1 ++ zs) (gathered_append g xs ys) ∙ sym (append_assoc (g e.0 e.1) (gathered g xs) (gathered g ys))

pub gathers_nothing : {L X : Type 0} (es : ByName L) → gathered {X = X} (λ name l. []) es ≡ []
gathers_nothing [] = refl
gathers_nothing (e ∷ es) = gathers_nothing es

-- ---- names

abbrev pub test : List ℕ → List ℕ → Bool
test name = is_at (slice_cmp nat_cmp name)

pub own_name : (name : List ℕ) → test name name ≡ true
own_name name = ap is_eq (tied_itself nat_list_cmp_total name)

has_key : {L : Type 0} → List ℕ → ByName L → Bool
has_key {L} name es = list_any (λ (e : List ℕ × L). test name e.0) es

none_has : {L : Type 0} (name : List ℕ) (es : ByName L) → lookup (test name) es ≡ None → has_key name es ≡ false
unfolding has_key
none_has name [] none = refl
none_has name (e ∷ es) none = by (test name e.0) none (none_has name es)
  where
    by : (b : Bool) → cond b (Some e.1) (lookup (test name) es) ≡ None → (lookup (test name) es ≡ None → has_key name es ≡ false) → (b || has_key name es) ≡ false
    by true n more = absurd cc
    by false n more = more n

head_alone : {L : Type 0} (name : List ℕ) (e : List ℕ × L) (es : ByName L) → Ascends (e ∷ es) → test name e.0 ≡ true → has_key name es ≡ false
head_alone name e es ascend at =
    none_has name es (lookup-none (test name) es
    (none_past_head (eq_by_cmp_equiv nat_list_cmp_total) name e es (IsDistinct-from_sorted (slice_cmp nat_cmp) (keys_of (e ∷ es)) ascend) at))

found_later : {L : Type 0} (name : List ℕ) (l : L) (xs ys : ByName L) → lookup (test name) (xs ++ (name, l) ∷ ys) ≡ None → ⊥
found_later name l [] ys none = by (test name name) (own_name name) none
  where
    by : (b : Bool) → b ≡ true → cond b (Some l) (lookup (test name) ys) ≡ None → ⊥
    by true e n = absurd cc
    by false e n = absurd cc
found_later name l (e ∷ xs) ys none = by (test name e.0) none (found_later name l xs ys)
  where
    by : (b : Bool) → cond b (Some e.1) (lookup (test name) (xs ++ (name, l) ∷ ys)) ≡ None → (lookup (test name) (xs ++ (name, l) ∷ ys) ≡ None → ⊥) → ⊥
    by true n more = absurd cc
    by false n more = more n

-- a name stands once
stands_once : {L : Type 0} (name : List ℕ) (l : L) (xs ys : ByName L) → Ascends (xs ++ (name, l) ∷ ys) → has_key name xs ≡ true → ⊥
unfolding has_key
stands_once name l [] ys ascend has = absurd cc
stands_once name l (e ∷ xs) ys ascend has = by (test name e.0) refl has (stands_once name l xs ys (sorted_tail (slice_cmp nat_cmp) e.0 (keys_of (xs ++ (name, l) ∷ ys)) ascend))
  where
    by : (b : Bool) → test name e.0 ≡ b → (b || has_key name xs) ≡ true → (has_key name xs ≡ true → ⊥) → ⊥
    by true at h more =
        found_later name l xs ys (lookup-none (test name) (xs ++ (name, l) ∷ ys)
        (none_past_head (eq_by_cmp_equiv nat_list_cmp_total) name e (xs ++ (name, l) ∷ ys) (IsDistinct-from_sorted (slice_cmp nat_cmp) (keys_of (e ∷ (xs ++ (name, l) ∷ ys))) ascend) at))
    by false at h more = more h

pub by_test : (b : Bool) → (b ≡ true → ⊥) → b ≡ false
by_test true n = absurd (n refl)
by_test false n = refl

passed : {L : Type 0} (unasked : L) (name : List ℕ) (l : L) (xs ys : ByName L) → has_key name xs ≡ false → named unasked name (xs ++ (name, l) ∷ ys) ≡ l
unfolding has_key
passed unasked name l [] ys none = rw (own_name name) refl
passed unasked name l (e ∷ xs) ys none = by (test name e.0) none (passed unasked name l xs ys)
  where
    by : (b : Bool) → (b || has_key name xs) ≡ false → (has_key name xs ≡ false → named unasked name (xs ++ (name, l) ∷ ys) ≡ l)
        → unwrap_or (cond b (Some e.1) (lookup (test name) (xs ++ (name, l) ∷ ys))) unasked ≡ l
    by true n more = absurd cc
    by false n more = more n

-- so the lock that stands under it is the lock of its name
pub named_there : {L : Type 0} (unasked : L) (name : List ℕ) (l : L) (xs ys : ByName L) → Ascends (xs ++ (name, l) ∷ ys) → named unasked name (xs ++ (name, l) ∷ ys) ≡ l
named_there {L} unasked name l xs ys ascend = passed unasked name l xs ys (by_test (has_key name xs) (stands_once name l xs ys ascend))

-- ---- whether some lock passes

either : (a b : Bool) → (a || b) ≡ false → (a ≡ false) × (b ≡ false)
either true b e = absurd cc
either false b e = (refl, e)

neither : (a b : Bool) → a ≡ false → b ≡ false → (a || b) ≡ false
neither a b e f = rw (e, f) refl

or_assoc : (a b c : Bool) → ((a || b) || c) ≡ (a || (b || c))
or_assoc true b c = refl
or_assoc false b c = refl

or_false : (b : Bool) → (b || false) ≡ b
or_false true = refl
or_false false = refl

or_true : (b : Bool) → (b || true) ≡ true
or_true true = refl
or_true false = refl

module _ {L : Type 0} (idle : L → Bool) (unasked : L) where
  -- ---- what is gathered, where an idle lock has nothing

  module _ {X : Type 0} (g : List ℕ → L → List X) (none : (name : List ℕ) (l : L) → idle l ≡ true → g name l ≡ []) where
    gathered_kept : (name : List ℕ) (l : L) → gathered g (kept idle name l) ≡ g name l
    gathered_kept name l = by (idle l) refl
      where
        by : (b : Bool) → idle l ≡ b → gathered g (cond b [] ((name, l) ∷ [])) ≡ g name l
        by true e = sym (none name l e)
        by false e = append-nil (g name l)

    gathered_parts : (name : List ℕ) (before after : ByName L) (l : L)
        → gathered g (before ++ (kept idle name l ++ after)) ≡ gathered g before ++ (g name l ++ gathered g after)
    gathered_parts name before after l =
        gathered_append g before (kept idle name l ++ after)
        ∙ ap (λ (zs : List X). gathered g before ++ zs) (gathered_append g (kept idle name l) after ∙ ap (λ (zs : List X). zs ++ gathered g after) (gathered_kept name l))

    -- where one lock changed
    pub gathered_old : (name : List ℕ) (f : L → L) (old new : ByName L) (c : ChangesAt idle unasked name f old new)
        → gathered g old ≡ gathered g c.before ++ (g name c.lock ++ gathered g c.after)
    gathered_old name f old new c = ap (gathered g) c.was ∙ gathered_parts name c.before c.after c.lock

    pub gathered_new : (name : List ℕ) (f : L → L) (old new : ByName L) (c : ChangesAt idle unasked name f old new)
        → gathered g new ≡ gathered g c.before ++ (g name (f c.lock) ++ gathered g c.after)
    gathered_new name f old new c = ap (gathered g) c.now ∙ gathered_parts name c.before c.after (f c.lock)

    pub gathered_same : (name : List ℕ) (f : L → L) (old new : ByName L) (c : ChangesAt idle unasked name f old new)
        → g name (f c.lock) ≡ g name c.lock → gathered g new ≡ gathered g old
    gathered_same name f old new c same =
        gathered_new name f old new c
        ∙ ap (λ (zs : List X). gathered g c.before ++ (zs ++ gathered g c.after)) same
        ∙ sym (gathered_old name f old new c)

    -- where all locks changed
    pub gathered_changed : (f : L → L) (h : List ℕ → L → List X) → ((name : List ℕ) (l : L) → g name (f l) ≡ h name l)
        → (es : ByName L) → gathered g (changed idle f es) ≡ gathered h es
    gathered_changed f h same [] = refl
    gathered_changed f h same (e ∷ es) = by (idle (f e.1)) refl (gathered_changed f h same es)
      where
        by : (b : Bool) → idle (f e.1) ≡ b → gathered g (changed idle f es) ≡ gathered h es
            → gathered g (cond b (changed idle f es) ((e.0, f e.1) ∷ changed idle f es)) ≡ h e.0 e.1 ++ gathered h es
        by true gone rest = rest ∙ ap (λ (zs : List X). zs ++ gathered h es) (sym (none e.0 (f e.1) gone) ∙ same e.0 e.1)
        by false gone rest = ap (λ (zs : List X). zs ++ gathered g (changed idle f es)) (same e.0 e.1) ∙ ap (λ (zs : List X). h e.0 e.1 ++ zs) rest

  -- ---- whether some lock passes, where an idle one doesn't

  module _ (p : L → Bool) where
    abbrev some : ByName L → Bool
    some es = list_any (λ (e : List ℕ × L). p e.1) es

    some_append : (xs ys : ByName L) → some (xs ++ ys) ≡ (some xs || some ys)
    some_append [] ys = refl
    some_append (e ∷ xs) ys = ap (λ (b : Bool). p e.1 || b) (some_append xs ys) ∙ sym (or_assoc (p e.1) (some xs) (some ys))

    module _ (none : (l : L) → idle l ≡ true → p l ≡ false) where
      some_kept : (name : List ℕ) (l : L) → some (kept idle name l) ≡ p l
      some_kept name l = by (idle l) refl
        where
          by : (b : Bool) → idle l ≡ b → some (cond b [] ((name, l) ∷ [])) ≡ p l
          by true e = sym (none l e)
          by false e = or_false (p l)

      some_parts : (name : List ℕ) (before after : ByName L) (l : L) → some (before ++ (kept idle name l ++ after)) ≡ (some before || (p l || some after))
      some_parts name before after l =
          some_append before (kept idle name l ++ after)
          ∙ ap (λ (b : Bool). some before || b) (some_append (kept idle name l) after ∙ ap (λ (b : Bool). b || some after) (some_kept name l))

      pub some_same : (name : List ℕ) (f : L → L) (old new : ByName L) (c : ChangesAt idle unasked name f old new) → p (f c.lock) ≡ p c.lock → some new ≡ some old
      some_same name f old new c same =
          ap some c.now ∙ some_parts name c.before c.after (f c.lock)
          ∙ ap (λ (b : Bool). some c.before || (b || some c.after)) same
          ∙ sym (ap some c.was ∙ some_parts name c.before c.after c.lock)

      -- none passes after a change that makes none pass
      pub none_passes : (name : List ℕ) (f : L → L) (old new : ByName L) (c : ChangesAt idle unasked name f old new)
          → ((l : L) → p l ≡ false → p (f l) ≡ false) → some old ≡ false → some new ≡ false
      none_passes name f old new c alone nothing =
          let was = sym (ap some c.was ∙ some_parts name c.before c.after c.lock) ∙ nothing in
          let a = either (some c.before) (p c.lock || some c.after) was in
          let b = either (p c.lock) (some c.after) a.1 in
          ap some c.now ∙ some_parts name c.before c.after (f c.lock)
          ∙ neither (some c.before) (p (f c.lock) || some c.after) a.0 (neither (p (f c.lock)) (some c.after) (alone c.lock b.0) b.1)

    pub changed_none_passes : (f : L → L) → ((l : L) → p l ≡ false → p (f l) ≡ false) → (es : ByName L) → some es ≡ false → some (changed idle f es) ≡ false
    changed_none_passes f alone [] nothing = refl
    changed_none_passes f alone (e ∷ es) nothing =
        let n = either (p e.1) (some es) nothing in
        by (idle (f e.1)) (alone e.1 n.0) (changed_none_passes f alone es n.1)
      where
        by : (b : Bool) → p (f e.1) ≡ false → some (changed idle f es) ≡ false → some (cond b (changed idle f es) ((e.0, f e.1) ∷ changed idle f es)) ≡ false
        by true at rest = rest
        by false at rest = neither (p (f e.1)) (some (changed idle f es)) at rest

    pub changed_gone : (f : L → L) → ((l : L) → p (f l) ≡ false) → (es : ByName L) → some (changed idle f es) ≡ false
    changed_gone f gone [] = refl
    changed_gone f gone (e ∷ es) = by (idle (f e.1)) (changed_gone f gone es)
      where
        by : (b : Bool) → some (changed idle f es) ≡ false → some (cond b (changed idle f es) ((e.0, f e.1) ∷ changed idle f es)) ≡ false
        by true rest = rest
        by false rest = neither (p (f e.1)) (some (changed idle f es)) (gone e.1) rest

    -- where none passes nothing is gathered of what only those that pass have
    pub nothing_gathered : {X : Type 0} (g : List ℕ → L → List X) → ((name : List ℕ) (l : L) → p l ≡ false → g name l ≡ [])
        → (es : ByName L) → some es ≡ false → gathered g es ≡ []
    nothing_gathered g nothing [] none = refl
    nothing_gathered {X} g nothing (e ∷ es) none =
        let n = either (p e.1) (some es) none in
        ap (λ (zs : List X). zs ++ gathered g es) (nothing e.0 e.1 n.0) ∙ nothing_gathered g nothing es n.1

  -- ---- the first of what is gathered

  -- a lock whose name is there is found, and isn't idle
  found_busy : (name : List ℕ) (before rest : ByName L) → NoneIdle idle before → has_key name before ≡ true → idle (named unasked name (before ++ rest)) ≡ false
  unfolding has_key
  found_busy name [] rest busy has = absurd cc
  found_busy name (e ∷ before) rest busy has = by (test name e.0) has (found_busy name before rest busy.1)
    where
      by : (b : Bool) → (b || has_key name before) ≡ true → (has_key name before ≡ true → idle (named unasked name (before ++ rest)) ≡ false)
          → idle (unwrap_or (cond b (Some e.1) (lookup (test name) (before ++ rest))) unasked) ≡ false
      by true h more = busy.0
      by false h more = more h

  -- no lock before the one that changed has its name
  not_before : (name : List ℕ) (f : L → L) (old new : ByName L) (c : ChangesAt idle unasked name f old new) → Ascends old → NoneIdle idle old → has_key name c.before ≡ false
  not_before name f old new c ascend none_idle = by_test (has_key name c.before) (λ has. by has (idle c.lock) refl)
    where
      busy : NoneIdle idle c.before
      busy = none_idle_front idle c.before (kept idle name c.lock ++ c.after) (subst (NoneIdle idle) c.was none_idle)

      by : has_key name c.before ≡ true → (b : Bool) → idle c.lock ≡ b → ⊥
      by has true is =
          let other = found_busy name c.before (kept idle name c.lock ++ c.after) busy has in
          let at = ap idle (c.at ∙ ap (named unasked name) c.was) in
          absurd (let clash = sym is ∙ at ∙ other in cc)
      by has false is =
          stands_once name c.lock c.before c.after
          (subst Ascends (c.was ∙ ap (λ (ks : ByName L). c.before ++ (ks ++ c.after)) (busy_kept idle name c.lock is)) ascend) has

  module _ {X : Type 0} (g : List ℕ → L → List X) (namer : X → List ℕ)
      (is_named : (name : List ℕ) (l : L) (x : X) → slice_get (g name l) 0 ≡ Some x → namer x ≡ name) where
    -- what is first comes from a lock of its name
    has_namer : (es : ByName L) (x : X) → slice_get (gathered g es) 0 ≡ Some x → has_key (namer x) es ≡ true
    unfolding has_key
    has_namer [] x e = absurd cc
    has_namer (e ∷ es) x first = by (slice_get (g e.0 e.1) 0) refl (has_namer es x)
      where
        by : (o : Option X) → slice_get (g e.0 e.1) 0 ≡ o → (slice_get (gathered g es) 0 ≡ Some x → has_key (namer x) es ≡ true) → (test (namer x) e.0 || has_key (namer x) es) ≡ true
        by None is more = ap (λ (b : Bool). test (namer x) e.0 || b) (more (ap (λ (zs : List X). slice_get (zs ++ gathered g es) 0) (sym (no_first (g e.0 e.1) is)) ∙ first)) ∙ or_true (test (namer x) e.0)
        by (Some y) is more =
            let same : y ≡ x = (let both_first = sym (first_front (g e.0 e.1) (gathered g es) y is) ∙ first in cc) in
            let here : namer x ≡ e.0 = ap namer (sym same) ∙ is_named e.0 e.1 y is in
            let at : test (namer x) e.0 ≡ true = subst (λ (n : List ℕ). test (namer x) n ≡ true) here (own_name (namer x)) in
            rw at refl

    -- what is first is the first of the lock of its name
    at_first : (es : ByName L) (x : X) → Ascends es → slice_get (gathered g es) 0 ≡ Some x → slice_get (g (namer x) (named unasked (namer x) es)) 0 ≡ Some x
    at_first [] x ascend e = absurd cc
    at_first (e ∷ es) x ascend first = by (slice_get (g e.0 e.1) 0) refl (at_first es x (sorted_tail (slice_cmp nat_cmp) e.0 (keys_of es) ascend))
      where
        by : (o : Option X) → slice_get (g e.0 e.1) 0 ≡ o → (slice_get (gathered g es) 0 ≡ Some x → slice_get (g (namer x) (named unasked (namer x) es)) 0 ≡ Some x)
            → slice_get (g (namer x) (unwrap_or (cond (test (namer x) e.0) (Some e.1) (lookup (test (namer x)) es)) unasked)) 0 ≡ Some x
        by None is more =
            let later : slice_get (gathered g es) 0 ≡ Some x = ap (λ (zs : List X). slice_get (zs ++ gathered g es) 0) (sym (no_first (g e.0 e.1) is)) ∙ first in
            let elsewhere : test (namer x) e.0 ≡ false =
            by_test (test (namer x) e.0) (λ at. let clash = sym (has_namer es x later) ∙ head_alone (namer x) e es ascend at in absurd cc) in
            rw elsewhere (more later)
        by (Some y) is more =
            let same : y ≡ x = (let both_first = sym (first_front (g e.0 e.1) (gathered g es) y is) ∙ first in cc) in
            let here : namer x ≡ e.0 = ap namer (sym same) ∙ is_named e.0 e.1 y is in
            let at : test (namer x) e.0 ≡ true = subst (λ (n : List ℕ). test (namer x) n ≡ true) here (own_name (namer x)) in
            rw at (ap (λ (n : List ℕ). slice_get (g n e.1) 0) here ∙ is ∙ ap (λ (z : X). Some z) same)

    -- where its lock gives the first away, the others are left
    pub first_given : ((name : List ℕ) (l : L) → idle l ≡ true → g name l ≡ [])
        → (f : L → L) (old new : ByName L) (x : X) → Ascends old → NoneIdle idle old → slice_get (gathered g old) 0 ≡ Some x
        → ((l : L) → g (namer x) (f l) ≡ drop 1 (g (namer x) l)) → ChangesAt idle unasked (namer x) f old new → gathered g new ≡ drop 1 (gathered g old)
    first_given none f old new x ascend none_idle first gives c =
        gathered_new g none (namer x) f old new c
        ∙ ap (λ (zs : List X). zs ++ (g (namer x) (f c.lock) ++ gathered g c.after)) silent_before
        ∙ ap (λ (zs : List X). zs ++ gathered g c.after) (gives c.lock)
        ∙ given (g (namer x) c.lock) is_first
        ∙ sym (ap (drop 1) whole)
      where
        -- the locks before it have nothing
        silent_before : gathered g c.before ≡ []
        silent_before = by (slice_get (gathered g c.before) 0) refl
          where
            by : (o : Option X) → slice_get (gathered g c.before) 0 ≡ o → gathered g c.before ≡ []
            by None is = no_first (gathered g c.before) is
            by (Some y) is =
                let rest = g (namer x) c.lock ++ gathered g c.after in
                let same : y ≡ x = (let both_first = sym (first_front (gathered g c.before) rest y is) ∙ sym (ap (λ (zs : List X). slice_get zs 0) (gathered_old g none (namer x) f old new c)) ∙ first in cc) in
                let has : has_key (namer x) c.before ≡ true = ap (λ (z : X). has_key (namer z) c.before) (sym same) ∙ has_namer c.before y is in
                absurd (let clash = sym has ∙ not_before (namer x) f old new c ascend none_idle in cc)

        whole : gathered g old ≡ g (namer x) c.lock ++ gathered g c.after
        whole = gathered_old g none (namer x) f old new c ∙ ap (λ (zs : List X). zs ++ (g (namer x) c.lock ++ gathered g c.after)) silent_before

        -- and it has some
        is_first : is_some (slice_get (g (namer x) c.lock) 0) ≡ true
        is_first = ap (λ (l : L). is_some (slice_get (g (namer x) l) 0)) c.at ∙ ap is_some (at_first old x ascend first)

        given : (xs : List X) → is_some (slice_get xs 0) ≡ true → drop 1 xs ++ gathered g c.after ≡ drop 1 (xs ++ gathered g c.after)
        given [] e = absurd cc
        given (z ∷ xs) e = refl
