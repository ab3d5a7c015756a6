-- Locks by name: one changed, and all of them.
use Rattle.std.proofs.Common.{◌≡◌, ℕ, List, [], ◌∷◌, ◌++◌, Bool, true, false, cond, Some, None, refl, sym, ap, subst, ◌∙◌}
use Rattle.std.specs.Prelude.{not, map, unwrap_or}
use Rattle.std.specs.declared.cmp.Ordering.{Ordering}
use Rattle.std.specs.declared.cmp.Ordering.TheVariants.{Less, Equal, Greater}
use Rattle.std.specs.Ordering.{nat_cmp, is_eq, match_ordering}
use Rattle.std.specs.Cmp.Lexicographic.{slice_cmp}
use Rattle.std.specs.FinMap.{nat_cmp-IsAntisymmetric, slice_cmp-IsAntisymmetric}
use Rattle.std.specs.Map.{lookup, set_value, remove_entry}
use Rattle.std.specs.Map.Calls.{RetainsPairs}
use Rattle.std.specs.BTreeMap.{is_at, insert_entry}
use Rattle.ovs_locks.specs.ByName.{ByName, NoneIdle, named, kept, ChangesAt, changed}

tied : (o : Ordering) → is_eq o ≡ true → o ≡ Equal
tied Less e = absurd cc
tied Equal e = refl
tied Greater e = absurd cc

pub same_name : (name key : List ℕ) → is_at (slice_cmp nat_cmp name) key ≡ true → key ≡ name
same_name name key e = sym (slice_cmp-IsAntisymmetric nat_cmp-IsAntisymmetric name key (tied (slice_cmp nat_cmp name key) e))

-- ---- where a lock stands

-- locks, split where the lock of a name stands
record Split {L : Type 0} (test : List ℕ → Bool) (es : ByName L) (l : L) : Type 0 where
  before : ByName L
  key : List ℕ
  after : ByName L
  passes : test key ≡ true
  was : es ≡ before ++ (key, l) ∷ after
  written : (v : L) → set_value test es v ≡ before ++ (key, v) ∷ after
  gone : (v : L) → remove_entry test (set_value test es v) ≡ before ++ after

split : {L : Type 0} (test : List ℕ → Bool) (es : ByName L) (l : L) → lookup test es ≡ Some l → Split test es l
split test [] l at = absurd cc
split {L} test (e ∷ es) l at = by (test e.0) refl at (split test es l)
  where
    by : (b : Bool) → test e.0 ≡ b → cond b (Some e.1) (lookup test es) ≡ Some l → (lookup test es ≡ Some l → Split test es l) → Split test (e ∷ es) l
    by true is here more =
        let same : e.1 ≡ l = cc in
        record {
          before = [];
          key = e.0;
          after = es;
          passes = is;
          was = ap (λ (v : L). (e.0, v) ∷ es) same;
          written = λ v. rw is refl;
          gone = λ v. rw is (rw is refl);
        }
    by false is there more =
        let s = more there in
        record {
          before = e ∷ s.before;
          key = s.key;
          after = s.after;
          passes = s.passes;
          was = ap (λ (xs : ByName L). e ∷ xs) s.was;
          written = λ v. rw is (ap (λ (xs : ByName L). e ∷ xs) (s.written v));
          gone = λ v. rw is (rw is (ap (λ (xs : ByName L). e ∷ xs) (s.gone v)));
        }

-- where a new lock is put
record Gap {L : Type 0} (name : List ℕ) (es : ByName L) : Type 0 where
  before : ByName L
  after : ByName L
  was : es ≡ before ++ after
  put : (v : L) → insert_entry (slice_cmp nat_cmp) es name v ≡ before ++ (name, v) ∷ after

gap : {L : Type 0} (name : List ℕ) (es : ByName L) → lookup (is_at (slice_cmp nat_cmp name)) es ≡ None → Gap name es
gap name [] none = record { before = []; after = []; was = refl; put = λ v. refl }
gap {L} name (e ∷ es) none = by (slice_cmp nat_cmp name e.0) refl none (gap name es)
  where
    by : (o : Ordering) → slice_cmp nat_cmp name e.0 ≡ o → cond (is_eq o) (Some e.1) (lookup (is_at (slice_cmp nat_cmp name)) es) ≡ None
        → (lookup (is_at (slice_cmp nat_cmp name)) es ≡ None → Gap name es) → Gap name (e ∷ es)
    by Less is n more = record { before = []; after = e ∷ es; was = refl; put = λ v. rw is refl }
    by Equal is n more = absurd cc
    by Greater is n more =
        let g = more n in
        record {
          before = e ∷ g.before;
          after = g.after;
          was = ap (λ (xs : ByName L). e ∷ xs) g.was;
          put = λ v. rw is (ap (λ (xs : ByName L). e ∷ xs) (g.put v));
        }

module _ {L : Type 0} (idle : L → Bool) where
  pub none_idle_append : (xs ys : ByName L) → NoneIdle idle xs → NoneIdle idle ys → NoneIdle idle (xs ++ ys)
  none_idle_append [] ys a b = b
  none_idle_append (x ∷ xs) ys a b = (a.0, none_idle_append xs ys a.1 b)

  pub none_idle_front : (xs ys : ByName L) → NoneIdle idle (xs ++ ys) → NoneIdle idle xs
  none_idle_front [] ys a = tt
  none_idle_front (x ∷ xs) ys a = (a.0, none_idle_front xs ys a.1)

  pub none_idle_back : (xs ys : ByName L) → NoneIdle idle (xs ++ ys) → NoneIdle idle ys
  none_idle_back [] ys a = a
  none_idle_back (x ∷ xs) ys a = none_idle_back xs ys a.1

  pub busy_kept : (name : List ℕ) (l : L) → idle l ≡ false → kept idle name l ≡ (name, l) ∷ []
  busy_kept name l e = rw e refl

  pub idle_kept : (name : List ℕ) (l : L) → idle l ≡ true → kept idle name l ≡ []
  idle_kept name l e = rw e refl

  kept_none_idle : (name : List ℕ) (l : L) → NoneIdle idle (kept idle name l)
  kept_none_idle name l = by (idle l) refl
    where
      by : (b : Bool) → idle l ≡ b → NoneIdle idle (cond b [] ((name, l) ∷ []))
      by true e = tt
      by false e = (e, tt)

  -- a lock that isn't idle was put
  pub none_idle_put : (name : List ℕ) (l : L) (es : ByName L) → idle l ≡ false → NoneIdle idle es → NoneIdle idle (insert_entry (slice_cmp nat_cmp) es name l)
  none_idle_put name l [] busy is = (busy, tt)
  none_idle_put name l (e ∷ es) busy is = by (slice_cmp nat_cmp name e.0) (none_idle_put name l es busy is.1)
    where
      by : (o : Ordering) → NoneIdle idle (insert_entry (slice_cmp nat_cmp) es name l)
          → NoneIdle idle (match_ordering o ((name, l) ∷ e ∷ es) ((e.0, l) ∷ es) (e ∷ insert_entry (slice_cmp nat_cmp) es name l))
      by Less rest = (busy, is)
      by Equal rest = (busy, is.1)
      by Greater rest = (is.0, rest)

  -- a lock that is there isn't idle
  pub busy_there : (test : List ℕ → Bool) (es : ByName L) (l : L) → NoneIdle idle es → lookup test es ≡ Some l → idle l ≡ false
  busy_there test [] l none there = absurd cc
  busy_there test (e ∷ es) l none there = by (test e.0) there (busy_there test es l none.1)
    where
      by : (b : Bool) → cond b (Some e.1) (lookup test es) ≡ Some l → (lookup test es ≡ Some l → idle l ≡ false) → idle l ≡ false
      by true here more = (let same : e.1 ≡ l = cc in ap idle (sym same) ∙ none.0)
      by false later more = more later

  -- a lock that isn't idle was written
  pub none_idle_set : (test : List ℕ → Bool) (w : L) (es : ByName L) → idle w ≡ false → NoneIdle idle es → NoneIdle idle (set_value test es w)
  none_idle_set test w [] busy is = tt
  none_idle_set test w (e ∷ es) busy is = by (test e.0) (none_idle_set test w es busy is.1)
    where
      by : (b : Bool) → NoneIdle idle (set_value test es w) → NoneIdle idle (cond b ((e.0, w) ∷ es) (e ∷ set_value test es w))
      by true rest = (busy, is.1)
      by false rest = (is.0, rest)

  pub none_idle_map : (f : L → L) → ((l : L) → idle (f l) ≡ idle l) → (es : ByName L) → NoneIdle idle es → NoneIdle idle (map (λ (e : List ℕ × L). (e.0, f e.1)) es)
  none_idle_map f same [] is = tt
  none_idle_map f same (e ∷ es) is = (same e.1 ∙ is.0, none_idle_map f same es is.1)

  -- ---- one lock

  module _ (unasked : L) (name : List ℕ) (f : L → L) (es : ByName L) (none_idle : NoneIdle idle es) where
    abbrev test : List ℕ → Bool
    test = is_at (slice_cmp nat_cmp name)

    at_lock : (l : L) → lookup test es ≡ Some l → l ≡ named unasked name es
    at_lock l at = sym (ap (λ o. unwrap_or o unasked) at)

    -- a lock that is there was written, and isn't idle then
    pub change_written : (l new : L) → lookup test es ≡ Some l → new ≡ f l → idle (f l) ≡ false
        → ChangesAt idle unasked name f es (set_value test es new)
    change_written l new at is busy =
        let s = split test es l at in
        let key = same_name name s.key s.passes in
        let stood : idle l ≡ false = (none_idle_back s.before ((s.key, l) ∷ s.after) (subst (NoneIdle idle) s.was none_idle)).0 in
        record {
          before = s.before;
          after = s.after;
          lock = l;
          at = at_lock l at;
          was = s.was ∙ rw key (rw (busy_kept name l stood) refl);
          now = s.written new ∙ rw (key, is) (rw (busy_kept name (f l) busy) refl);
        }

    -- a lock that is there was written, is idle then, and was taken out
    pub change_gone : (l new : L) → lookup test es ≡ Some l → new ≡ f l → idle (f l) ≡ true
        → ChangesAt idle unasked name f es (remove_entry test (set_value test es new))
    change_gone l new at is gone =
        let s = split test es l at in
        let key = same_name name s.key s.passes in
        let stood : idle l ≡ false = (none_idle_back s.before ((s.key, l) ∷ s.after) (subst (NoneIdle idle) s.was none_idle)).0 in
        record {
          before = s.before;
          after = s.after;
          lock = l;
          at = at_lock l at;
          was = s.was ∙ rw key (rw (busy_kept name l stood) refl);
          now = s.gone new ∙ rw (idle_kept name (f l) gone) refl;
        }

    -- a lock that isn't there was put
    pub change_put : (new : L) → lookup test es ≡ None → new ≡ f unasked → idle unasked ≡ true → idle (f unasked) ≡ false
        → ChangesAt idle unasked name f es (insert_entry (slice_cmp nat_cmp) es name new)
    change_put new none is was_idle busy =
        let g = gap name es none in
        record {
          before = g.before;
          after = g.after;
          lock = unasked;
          at = sym (ap (λ o. unwrap_or o unasked) none);
          was = g.was ∙ rw (idle_kept name unasked was_idle) refl;
          now = g.put new ∙ rw is (rw (busy_kept name (f unasked) busy) refl);
        }

    -- none is there, and the change makes none
    pub change_none : lookup test es ≡ None → idle unasked ≡ true → idle (f unasked) ≡ true → ChangesAt idle unasked name f es es
    change_none none was_idle still = record {
      before = [];
      after = es;
      lock = unasked;
      at = sym (ap (λ o. unwrap_or o unasked) none);
      was = rw (idle_kept name unasked was_idle) refl;
      now = rw (idle_kept name (f unasked) still) refl;
    }

  -- still none of them is idle
  pub change_none_idle : (unasked : L) (name : List ℕ) (f : L → L) (old new : ByName L) → NoneIdle idle old → ChangesAt idle unasked name f old new → NoneIdle idle new
  change_none_idle unasked name f old new is c =
      let parts = subst (NoneIdle idle) c.was is in
      subst (NoneIdle idle) (sym c.now) (none_idle_append c.before (kept idle name (f c.lock) ++ c.after) (none_idle_front c.before (kept idle name c.lock ++ c.after) parts)
      (none_idle_append (kept idle name (f c.lock)) c.after (kept_none_idle name (f c.lock))
      (none_idle_back (kept idle name c.lock) c.after (none_idle_back c.before (kept idle name c.lock ++ c.after) parts))))

  -- what holds between a lock and what the change makes of it holds for each name
  module _ (unasked : L) (R : L → L → Type 0) (itself : (l : L) → R l l) (name : List ℕ) (f : L → L) (same : (l : L) → idle (f l) ≡ idle l) (makes : (l : L) → R l (f l)) where
    -- where it is the first
    first_related : (other : List ℕ) (after : ByName L) (l : L)
        → R (named unasked other ((name, l) ∷ after)) (named unasked other ((name, f l) ∷ after))
    first_related other after l = by (is_at (slice_cmp nat_cmp other) name)
      where
        by : (b : Bool) → R (unwrap_or (cond b (Some l) (lookup (is_at (slice_cmp nat_cmp other)) after)) unasked) (unwrap_or (cond b (Some (f l)) (lookup (is_at (slice_cmp nat_cmp other)) after)) unasked)
        by true = makes l
        by false = itself (named unasked other after)

    related : (other : List ℕ) (before after : ByName L) (l : L)
        → R (named unasked other (before ++ (kept idle name l ++ after))) (named unasked other (before ++ (kept idle name (f l) ++ after)))
    related other [] after l = by (idle l) (idle (f l)) (same l)
      where
        by : (b c : Bool) → c ≡ b → R (named unasked other (cond b [] ((name, l) ∷ []) ++ after)) (named unasked other (cond c [] ((name, f l) ∷ []) ++ after))
        by true true e = itself (named unasked other after)
        by false false e = first_related other after l
        by true false e = absurd cc
        by false true e = absurd cc
    related other (e ∷ before) after l = by (is_at (slice_cmp nat_cmp other) e.0) (related other before after l)
      where
        by : (b : Bool) → R (named unasked other (before ++ (kept idle name l ++ after))) (named unasked other (before ++ (kept idle name (f l) ++ after)))
            → R (unwrap_or (cond b (Some e.1) (lookup (is_at (slice_cmp nat_cmp other)) (before ++ (kept idle name l ++ after)))) unasked)
            (unwrap_or (cond b (Some e.1) (lookup (is_at (slice_cmp nat_cmp other)) (before ++ (kept idle name (f l) ++ after)))) unasked)
        by true rest = itself e.1
        by false rest = rest

    pub change_relates : (old new : ByName L) → ChangesAt idle unasked name f old new → (other : List ℕ) → R (named unasked other old) (named unasked other new)
    change_relates old new c other =
        subst (λ (es : ByName L). R (named unasked other es) (named unasked other new)) (sym c.was)
        (subst (λ (es : ByName L). R (named unasked other (c.before ++ (kept idle name c.lock ++ c.after))) (named unasked other es)) (sym c.now) (related other c.before c.after c.lock))

  -- ---- all locks

  not_cond : {X : Type 0} (b : Bool) (x y : X) → cond (not b) x y ≡ cond b y x
  not_cond true x y = refl
  not_cond false x y = refl

  pub changed_pairs : {F : Type 0} (T : F → List ℕ → L → Bool → L → F → Type 0) (f : L → L) (g : F)
      → ((k : List ℕ) (v : L) (b : Bool) (w : L) (g' : F) → T g k v b w g' → (b ≡ not (idle (f v))) × (w ≡ f v) × (g' ≡ g))
      → (es left : ByName L) → RetainsPairs T g es left → left ≡ changed idle f es
  changed_pairs T f g h [] left r = r
  changed_pairs T f g h (e ∷ es) left (b, w, g', rest, t, more, is) =
      let x = h e.0 e.1 b w g' t in
      let same = changed_pairs T f g h es rest (subst (λ q. RetainsPairs T q es rest) x.2 more) in
      let there : left ≡ cond (not (idle (f e.1))) ((e.0, f e.1) ∷ changed idle f es) (changed idle f es) = cc in
      there ∙ not_cond (idle (f e.1)) ((e.0, f e.1) ∷ changed idle f es) (changed idle f es)

  pub changed_none_idle : (f : L → L) (es : ByName L) → NoneIdle idle (changed idle f es)
  changed_none_idle f [] = tt
  changed_none_idle f (e ∷ es) = by (idle (f e.1)) refl (changed_none_idle f es)
    where
      by : (b : Bool) → idle (f e.1) ≡ b → NoneIdle idle (changed idle f es) → NoneIdle idle (cond b (changed idle f es) ((e.0, f e.1) ∷ changed idle f es))
      by true e rest = rest
      by false e rest = (e, rest)
