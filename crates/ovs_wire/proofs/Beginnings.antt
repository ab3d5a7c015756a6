-- Beginnings of balanced texts one after another.
use Rattle.std.specs.List.{concat}
use Rattle.std.proofs.Common.{All, ◌≡◌, ℕ, ◌<◌, ◌≤◌, ◌⊎◌, inl, inr, ⊎_elim, List, [], ◌∷◌, ◌++◌, length, take, slice_index, refl, ap, sym, ◌∙◌, subst, arith, length-append}
use Rattle.std.proofs.lemmas.Bool.{cases_lt}
use Rattle.std.proofs.lemmas.List.{append-nil, take-append-le, take_all}
use Rattle.std.proofs.lemmas.List.Elements.{All-nil, All-cons, All-head, All-tail}
use Rattle.ovs_wire.specs.declared.error.FrameError.{FrameError}
use Rattle.ovs_wire.specs.declared.error.FrameError.TheVariants.{TooDeep, TooLong}
use Rattle.ovs_wire.specs.Limits.{most_nesting}
use Rattle.ovs_wire.specs.Depth.{depth}
use Rattle.ovs_wire.specs.Frames.{IsBalanced, IsObject, IsWithinLimits, IsUnfinished, IsTooLarge, HasFault, Part, Space, Object, IsPart, objects, Ending, Rest, Fault, AreFrames}
use Rattle.ovs_wire.specs.Texts.{Remain}
use Rattle.ovs_wire.proofs.Cuts.{cut, fault_on, only_rest, only_fault, only_object, nothing}
use Rattle.ovs_wire.proofs.Over.{object_or_large}
use Rattle.ovs_wire.proofs.Unique.{once}

-- ---- where the first of two divisions of a list ends: in the second's rest, or within its front

abbrev Cut : (x y t z : List ℕ) → Type 0
Cut x y t z = ((w : List ℕ) × (x ≡ t ++ w) × (w ++ y ≡ z)) ⊎ ((w : List ℕ) × (0 < length w) × (t ≡ x ++ w))

where_cut : (x y t z : List ℕ) → x ++ y ≡ t ++ z → Cut x y t z
where_cut x y [] z e = inl (x, refl, e)
where_cut [] y (a ∷ t) z e = inr (a ∷ t, omega arith, refl)
where_cut (b ∷ x) y (a ∷ t) z e =
    let heads : b ≡ a = cc in
    let tails : x ++ y ≡ t ++ z = cc in
    onward heads (where_cut x y t z tails)
  where
    onward : b ≡ a → Cut x y t z → Cut (b ∷ x) y (a ∷ t) z
    onward heads (inl p) = inl (p.0, cc (heads, p.1), p.2)
    onward heads (inr p) = inr (p.0, p.1, cc (heads, p.2))

-- ---- a beginning

first_of : (p x : List ℕ) → 0 < length p → slice_index (p ++ x) 0 ≡ slice_index p 0
first_of [] x lt = absurd (omega arith)
first_of (a ∷ p) x lt = refl

-- within the limits, as the whole is
limits_before : {most : ℕ} (x w : List ℕ) → IsWithinLimits most (x ++ w) → IsWithinLimits most x
limits_before x w is = record {
  nests = λ k. ⊎_elim
      (λ (lt : k < length x). let le : k ≤ length x = omega arith in
      subst (λ (l : List ℕ). depth l ≤ most_nesting) (take-append-le k x w le) (is.nests k))
      (λ (le : length x ≤ k). let whole : take (length x) (x ++ w) ≡ take k x =
      take-append-le (length x) x w (omega arith) ∙ take_all (length x) x (omega arith) ∙ sym (take_all k x le) in
      subst (λ (l : List ℕ). depth l ≤ most_nesting) whole (is.nests (length x)))
      (cases_lt k (length x));
  fits = omega (arith, length-append x w, is.fits);
}

begun_object : {most : ℕ} (x w : List ℕ) → IsObject most (x ++ w) → 0 < length w → IsUnfinished most x
begun_object x w is more = record {
  begun = record {
    begins = λ lt. sym (first_of x w lt) ∙ is.balanced.begins.1;
    inside = λ k past le. subst (λ (l : List ℕ). 0 < depth l) (take-append-le k x w le)
        (is.balanced.inside k past (omega (arith, length-append x w, more, le)));
  };
  limits = limits_before x w is.limits;
}

begun_rest : {most : ℕ} (x w : List ℕ) → IsUnfinished most (x ++ w) → IsUnfinished most x
begun_rest x w is = record {
  begun = record {
    begins = λ lt. sym (first_of x w lt) ∙ is.begun.begins (omega (arith, length-append x w, lt));
    inside = λ k past le. subst (λ (l : List ℕ). 0 < depth l) (take-append-le k x w le)
        (is.begun.inside k past (omega (arith, length-append x w, le)));
  };
  limits = limits_before x w is.limits;
}

-- of a text with a fault it is unfinished, or has the fault
begun_fault : {most : ℕ} (x w t : List ℕ) (f : FrameError) → (h : HasFault most t f) → t ≡ x ++ w → IsUnfinished most x ⊎ HasFault most x f
begun_fault {most} x w t f h e = by (where_cut x w h.before (h.byte ∷ h.more) (sym e ∙ h.whole))
  where
    past : (v : List ℕ) → x ≡ h.before ++ v → v ++ w ≡ h.byte ∷ h.more → IsUnfinished most x ⊎ HasFault most x f
    past [] is rest = inl (subst (IsUnfinished most) (sym (is ∙ append-nil h.before)) h.unfinished)
    past (b ∷ v) is rest =
        let same : b ≡ h.byte = cc in
        inr (record {
          before = h.before;
          byte = h.byte;
          more = v;
          whole = is ∙ ap (λ c. h.before ++ c ∷ v) same;
          unfinished = h.unfinished;
          breaks = h.breaks;
        })

    by : Cut x w h.before (h.byte ∷ h.more) → IsUnfinished most x ⊎ HasFault most x f
    by (inl p) = past p.0 p.1 p.2
    by (inr p) = inl (begun_rest x p.0 (subst (IsUnfinished most) p.2 h.unfinished))

-- ---- frames of what has come, and the texts that aren't whole yet

record Leaves (most : ℕ) (texts : List (List ℕ)) (come coming : List ℕ) : Type 0 where
  found : List (List ℕ)
  ending : Ending
  left : List (List ℕ)
  frames : AreFrames most come found ending
  all : found ++ left ≡ texts
  rest : Remain most ending coming left

none_come : (x y : List ℕ) → x ++ y ≡ [] → x ≡ []
none_come [] y e = refl
none_come (a ∷ x) y e = absurd (let n = ap (λ l. length l) e in omega arith)

module _ {most : ℕ} (t : List ℕ) (texts : List (List ℕ)) (x y w : List ℕ) where
  -- within a text that is an object
  within_object : IsObject most (x ++ w) → 0 < length w → x ++ y ≡ concat (t ∷ texts) → Leaves most (t ∷ texts) x y
  within_object o more e =
      record { found = []; ending = Rest x; left = t ∷ texts; frames = only_rest x (begun_object x w o more); all = refl; rest = e }

  -- within a text that is too large
  within_large : (f : FrameError) → HasFault most t f → IsTooLarge most t → t ≡ x ++ w → x ++ y ≡ concat (t ∷ texts) → Leaves most (t ∷ texts) x y
  within_large f h large is e = by (begun_fault x w t f h is)
    where
      by : IsUnfinished most x ⊎ HasFault most x f → Leaves most (t ∷ texts) x y
      by (inl u) = record { found = []; ending = Rest x; left = t ∷ texts; frames = only_rest x u; all = refl; rest = e }
      by (inr g) = record { found = []; ending = Fault f; left = t ∷ texts; frames = only_fault x f g; all = refl; rest = (t, texts, refl, large) }

  -- behind an object
  behind_object : IsObject most t → x ≡ t ++ w → Leaves most texts w y → Leaves most (t ∷ texts) x y
  behind_object o is l =
      record {
        found = t ∷ l.found;
        ending = l.ending;
        left = l.left;
        frames = subst (λ (v : List ℕ). AreFrames most v (t ∷ l.found) l.ending) (sym is)
            (cut t w (t ∷ []) l.found [] l.ending (only_object t o) l.frames);
        all = ap (λ v. t ∷ v) l.all;
        rest = l.rest;
      }

  -- behind one that is too large
  behind_large : (f : FrameError) → HasFault most t f → IsTooLarge most t → x ≡ t ++ w → Leaves most (t ∷ texts) x y
  behind_large f h large is =
      record {
        found = [];
        ending = Fault f;
        left = t ∷ texts;
        frames = subst (λ (l : List ℕ). AreFrames most l [] (Fault f)) (sym is) (fault_on t w [] f (only_fault t f h));
        all = refl;
        rest = (t, texts, refl, large);
      }

leaves : {most : ℕ} (texts : List (List ℕ)) → All IsBalanced texts → (x y : List ℕ) → x ++ y ≡ concat texts → Leaves most texts x y
leaves {most} [] each x y e =
    record {
      found = [];
      ending = Rest [];
      left = [];
      frames = subst (λ (l : List ℕ). AreFrames most l [] (Rest [])) (sym (none_come x y e)) (only_rest [] nothing);
      all = refl;
      rest = subst (λ (l : List ℕ). l ++ y ≡ []) (none_come x y e) e;
    }
leaves {most} (t ∷ texts) each x y e =
    by (λ w is. leaves texts (All-tail IsBalanced t texts each) w y is) (object_or_large t (All-head IsBalanced t texts each)) (where_cut x y t (concat texts) e)
  where
    by : ((w : List ℕ) → w ++ y ≡ concat texts → Leaves most texts w y) → IsObject most t ⊎ IsTooLarge most t → Cut x y t (concat texts) → Leaves most (t ∷ texts) x y
    by go (inl o) (inl p) = behind_object t texts x y p.0 o p.1 (go p.0 p.2)
    by go (inl o) (inr p) = within_object t texts x y p.0 (subst (IsObject most) p.2 o) p.1 e
    by go (inr (inl h)) (inl p) = behind_large t texts x y p.0 TooDeep h (inl h) p.1
    by go (inr (inr h)) (inl p) = behind_large t texts x y p.0 TooLong h (inr h) p.1
    by go (inr (inl h)) (inr p) = within_large t texts x y p.0 TooDeep h (inl h) p.2 e
    by go (inr (inr h)) (inr p) = within_large t texts x y p.0 TooLong h (inr h) p.2 e

-- what is found is an object
objects_each : {most : ℕ} (ps : List Part) → All (IsPart most) ps → All (IsObject most) (objects ps)
objects_each {most} [] each = All-nil (IsObject most)
objects_each {most} (Space b ∷ ps) each = objects_each ps (All-tail (IsPart most) (Space b) ps each)
objects_each {most} (Object o ∷ ps) each =
    All-cons (IsObject most) o (objects ps) (All-head (IsPart most) (Object o) ps each) (objects_each ps (All-tail (IsPart most) (Object o) ps each))

-- and there are no other frames
pub cut_anywhere : {most : ℕ} (texts : List (List ℕ)) (x y : List ℕ) (found : List (List ℕ)) (ending : Ending)
    → All IsBalanced texts → x ++ y ≡ concat texts → AreFrames most x found ending
    → All (IsObject most) found × ((left : List (List ℕ)) × (found ++ left ≡ texts) × Remain most ending y left)
cut_anywhere {most} texts x y found ending each e a =
    let l = leaves texts each x y e in
    let same = once x l.found found l.ending ending l.frames a in (
      subst (All (IsObject most)) a.found_are (objects_each a.parts a.each),
      (
        l.left,
        ap (λ (v : List (List ℕ)). v ++ l.left) (sym same.0) ∙ l.all,
        subst (λ (v : Ending). Remain most v y l.left) same.1 l.rest,
      ),
    )
