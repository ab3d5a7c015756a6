-- Locks by name, of which each session has the names of those with which it has to do.
use Rattle.std.proofs.Common.{◌≡◌, ℕ, List, [], ◌∷◌, ◌++◌, Bool, true, false, cond, Option, Some, None, refl, sym, ap, subst, ◌∙◌}
use Rattle.std.specs.Prelude.{map, filter, option_map, unwrap_or}
use Rattle.std.specs.List.Sorted.{IsStrictlySortedBy}
use Rattle.std.specs.Map.{lookup, keys_of}
use Rattle.std.specs.Ordering.{nat_cmp}
use Rattle.std.specs.Cmp.{eq_by_cmp_equiv}
use Rattle.std.specs.Cmp.Lexicographic.{slice_cmp, nat_list_cmp_total}
use Rattle.std.proofs.lemmas.List.Kept.{IsStrictlySortedBy-filter}
use Rattle.std.proofs.lemmas.Map.{lookup-none}
use Rattle.std.proofs.lemmas.Map.Entries.{none_past_head, lookup-filter-keys}
use Rattle.std.proofs.lemmas.Map.Keys.{sorted_tail, IsDistinct-from_sorted}
use Rattle.std.proofs.lemmas.Map.Made.{lookup-map_values}
use Rattle.ovs_locks.specs.ByName.{ByName, Ascends, named, kept, ChangesAt, changed, gathered}
use Rattle.ovs_locks.specs.BySession.{Names, mark_in}
use Rattle.ovs_locks.proofs.ByName.{same_name}
use Rattle.ovs_locks.proofs.Gathering.{test}
use Rattle.ovs_locks.proofs.Listed.{reads}

pub past : {X : Type 0} (q : List ℕ) (e : List ℕ × X) (es : ByName X) → Ascends (e ∷ es) → test q e.0 ≡ true → lookup (test q) es ≡ None
past q e es s at = lookup-none (test q) es (none_past_head (eq_by_cmp_equiv nat_list_cmp_total) q e es (IsDistinct-from_sorted (slice_cmp nat_cmp) (keys_of (e ∷ es)) s) at)

-- ---- what holds of the lock of a name after a change

module _ {L : Type 0} (idle : L → Bool) (unasked : L) (P : L → Type 0) (nothing : P unasked) (q : List ℕ) where
  none_there : (es : ByName L) → lookup (test q) es ≡ None → P (named unasked q es)
  none_there es none = subst (λ (o : Option L). P (unwrap_or o unasked)) (sym none) nothing

  parts : (name : List ℕ) (l m : L) (before after : ByName L) → Ascends (before ++ (kept idle name l ++ after)) → (test q name ≡ true → P m)
      → P (named unasked q (before ++ (kept idle name l ++ after))) → P (named unasked q (before ++ (kept idle name m ++ after)))
  parts name l m [] after ascend here was = by (idle l) (idle m) (test q name) refl refl ascend was
    where
      by : (i j b : Bool) → test q name ≡ b → b ≡ b → Ascends (cond i [] ((name, l) ∷ []) ++ after) → P (named unasked q (cond i [] ((name, l) ∷ []) ++ after))
          → P (named unasked q (cond j [] ((name, m) ∷ []) ++ after))
      by true true b at same s was = was
      by true false true at same s was = subst (λ (c : Bool). P (unwrap_or (cond c (Some m) (lookup (test q) after)) unasked)) (sym at) (here at)
      by true false false at same s was = subst (λ (c : Bool). P (unwrap_or (cond c (Some m) (lookup (test q) after)) unasked)) (sym at) was
      by false true true at same s was = none_there after (past q (name, l) after s at)
      by false true false at same s was = subst (λ (c : Bool). P (unwrap_or (cond c (Some l) (lookup (test q) after)) unasked)) at was
      by false false true at same s was = subst (λ (c : Bool). P (unwrap_or (cond c (Some m) (lookup (test q) after)) unasked)) (sym at) (here at)
      by false false false at same s was =
          subst (λ (c : Bool). P (unwrap_or (cond c (Some m) (lookup (test q) after)) unasked)) (sym at)
          (subst (λ (c : Bool). P (unwrap_or (cond c (Some l) (lookup (test q) after)) unasked)) at was)
  parts name l m (e ∷ before) after ascend here was = by (test q e.0) was (parts name l m before after (sorted_tail (slice_cmp nat_cmp) e.0 (keys_of (before ++ (kept idle name l ++ after))) ascend) here)
    where
      by : (b : Bool) → P (unwrap_or (cond b (Some e.1) (lookup (test q) (before ++ (kept idle name l ++ after)))) unasked)
          → (P (named unasked q (before ++ (kept idle name l ++ after))) → P (named unasked q (before ++ (kept idle name m ++ after))))
          → P (unwrap_or (cond b (Some e.1) (lookup (test q) (before ++ (kept idle name m ++ after)))) unasked)
      by true was more = was
      by false was more = more was

  -- one lock changed
  pub after_change : (name : List ℕ) (f : L → L) (old new : ByName L) (c : ChangesAt idle unasked name f old new) → Ascends old → (q ≡ name → P (f (named unasked name old)))
      → P (named unasked q old) → P (named unasked q new)
  after_change name f old new c ascend here was =
      subst (λ (es : ByName L). P (named unasked q es)) (sym c.now)
      (parts name c.lock (f c.lock) c.before c.after (subst Ascends c.was ascend) (λ at. subst (λ (l : L). P (f l)) (sym c.at) (here (sym (same_name q name at))))
      (subst (λ (es : ByName L). P (named unasked q es)) c.was was))

  gone_still : (f : L → L) (es : ByName L) → lookup (test q) es ≡ None → lookup (test q) (changed idle f es) ≡ None
  gone_still f [] none = refl
  gone_still f (e ∷ es) none = by (test q e.0) (idle (f e.1)) refl none (gone_still f es)
    where
      by : (b i : Bool) → test q e.0 ≡ b → cond b (Some e.1) (lookup (test q) es) ≡ None → (lookup (test q) es ≡ None → lookup (test q) (changed idle f es) ≡ None)
          → lookup (test q) (cond i (changed idle f es) ((e.0, f e.1) ∷ changed idle f es)) ≡ None
      by true i at n more = absurd cc
      by false true at n more = more n
      by false false at n more = rw at (more n)

  -- all locks changed
  pub after_changes : (f : L → L) (es : ByName L) → Ascends es → P (f (named unasked q es)) → P (named unasked q (changed idle f es))
  after_changes f [] s was = nothing
  after_changes f (e ∷ es) s was = by (test q e.0) (idle (f e.1)) refl was (after_changes f es (sorted_tail (slice_cmp nat_cmp) e.0 (keys_of es) s))
    where
      by : (b i : Bool) → test q e.0 ≡ b → P (f (unwrap_or (cond b (Some e.1) (lookup (test q) es)) unasked)) → (P (f (named unasked q es)) → P (named unasked q (changed idle f es)))
          → P (named unasked q (cond i (changed idle f es) ((e.0, f e.1) ∷ changed idle f es)))
      by true true at was more = none_there (changed idle f es) (gone_still f es (past q e es s at))
      by true false at was more = subst (λ (c : Bool). P (unwrap_or (cond c (Some (f e.1)) (lookup (test q) (changed idle f es))) unasked)) (sym at) was
      by false true at was more = more was
      by false false at was more = subst (λ (c : Bool). P (unwrap_or (cond c (Some (f e.1)) (lookup (test q) (changed idle f es))) unasked)) (sym at) (more was)

-- ---- what the names tell

module _ {L : Type 0} (p : L → Bool) (unasked : L) (nothing : p unasked ≡ false) where
  mark : L → Option Bool
  mark l = cond (p l) (Some false) None

  no_mark : mark unasked ≡ None
  unfolding mark
  no_mark = ap (λ (b : Bool). cond b (Some false) None) nothing

  module _ {X : Type 0} (g : List ℕ → L → List X) (silent : (name : List ℕ) (l : L) → p l ≡ false → g name l ≡ []) (locks : ByName L) where
    abbrev inside : List ℕ → Bool
    inside name = p (named unasked name locks)

    abbrev told : List ℕ → Bool → List X
    told name b = g name (named unasked name locks)

    plain : Names → Names
    plain names = map (λ (e : List ℕ × Bool). (e.0, false)) (filter (λ (e : List ℕ × Bool). inside e.0) names)

    plain_keys : (names : Names) → keys_of (plain names) ≡ filter inside (keys_of names)
    unfolding plain
    plain_keys [] = refl
    plain_keys (e ∷ es) = by (inside e.0) (plain_keys es)
      where
        by : (b : Bool) → keys_of (plain es) ≡ filter inside (keys_of es)
            → keys_of (map (λ (e : List ℕ × Bool). (e.0, false)) (cond b (e ∷ filter (λ (e : List ℕ × Bool). inside e.0) es) (filter (λ (e : List ℕ × Bool). inside e.0) es))) ≡ cond b (e.0 ∷ filter inside (keys_of es)) (filter inside (keys_of es))
        by true rest = ap (λ (ks : List (List ℕ)). e.0 ∷ ks) rest
        by false rest = rest

    plain_told : (names : Names) → gathered told names ≡ gathered told (plain names)
    unfolding plain
    plain_told [] = refl
    plain_told (e ∷ es) = by (inside e.0) refl (plain_told es)
      where
        by : (b : Bool) → inside e.0 ≡ b → gathered told es ≡ gathered told (plain es)
            → told e.0 e.1 ++ gathered told es ≡ gathered told (map (λ (e : List ℕ × Bool). (e.0, false)) (cond b (e ∷ filter (λ (e : List ℕ × Bool). inside e.0) es) (filter (λ (e : List ℕ × Bool). inside e.0) es)))
        by true at rest = ap (λ (xs : List X). told e.0 e.1 ++ xs) rest
        by false at rest = ap (λ (xs : List X). xs ++ gathered told es) (silent e.0 (named unasked e.0 locks) at) ∙ rest

    plain_found : (names : Names) → ((name : List ℕ) → mark_in name names ≡ None → inside name ≡ false) → (q : List ℕ) → mark_in q (plain names) ≡ mark (named unasked q locks)
    unfolding plain mark
    plain_found names none q =
        lookup-map_values (λ _. false) (test q) (filter (λ (e : List ℕ × Bool). inside e.0) names)
        ∙ ap (option_map (λ _. false)) (lookup-filter-keys (test q) inside (inside q) (λ k at. ap inside (same_name q k at)) names)
        ∙ by (inside q) (lookup (test q) names) refl refl
      where
        by : (b : Bool) (o : Option Bool) → inside q ≡ b → lookup (test q) names ≡ o → option_map (λ _. false) (cond b o None) ≡ cond b (Some false) None
        by true None at is = absurd (let clash = sym at ∙ none q is in cc)
        by true (Some m) at is = refl
        by false o at is = refl

    -- the names tell all that there is
    pub names_tell : (names : Names) → Ascends locks → Ascends names → ((name : List ℕ) → mark_in name names ≡ None → inside name ≡ false) → gathered told names ≡ gathered g locks
    unfolding mark
    names_tell names s t none =
        plain_told names
        ∙ (reads mark unasked no_mark g quiet locks (plain names) s (subst (IsStrictlySortedBy (slice_cmp nat_cmp)) (sym (plain_keys names)) (IsStrictlySortedBy-filter (slice_cmp nat_cmp) inside (keys_of names) t)) (plain_found names none)).whole
      where
        quiet : (name : List ℕ) (l : L) → mark l ≡ None → g name l ≡ []
        quiet name l m = silent name l (of (p l) m)
          where
            of : (b : Bool) → cond b (Some false) None ≡ None → b ≡ false
            of true e = absurd cc
            of false e = refl
