-- A stream has one division.
use Rattle.std.proofs.Common.{All, ◌≡◌, ℕ, ◌<◌, ◌≤◌, ◌⊎◌, ⊎_elim, List, [], ◌∷◌, ◌++◌, length, take, slice_index, refl, ap, sym, ◌∙◌, subst, arith, append_assoc, length-append}
use Rattle.std.proofs.lemmas.Bool.{cases_order, cases_lt}
use Rattle.std.proofs.lemmas.List.{append-nil}
use Rattle.std.proofs.lemmas.List.Elements.{All-head, All-tail}
use Rattle.ovs_wire.specs.declared.error.FrameError.{FrameError}
use Rattle.ovs_wire.specs.declared.error.FrameError.TheVariants.{NotObject, TooDeep, TooLong, NoMemory}
use Rattle.ovs_wire.specs.Limits.{most_nesting}
use Rattle.ovs_wire.specs.Depth.{depth}
use Rattle.ovs_wire.proofs.Cuts.{no_space}
use Rattle.ovs_wire.specs.Frames.{IsSpace, IsBalanced, IsWithinLimits, IsUnfinished, HasFault, Breaks, Part, Space, Object, IsPart, bytes_of, joined, objects, Ending, Rest, Fault, EndsAs, AreFrames}

-- of two beginnings of one list the shorter is a beginning of the longer
take_front : (p q x y : List ℕ) → p ++ x ≡ q ++ y → length p ≤ length q → take (length p) q ≡ p
take_front [] q x y e le = refl
take_front (a ∷ p) [] x y e le = absurd (omega arith)
take_front (a ∷ p) (b ∷ q) x y e le =
    let heads : a ≡ b = cc (e) in
    let rest = take_front p q x y (cc (e)) (omega arith) in cc (heads, rest)

same_length : (p q x y : List ℕ) → p ++ x ≡ q ++ y → length p ≡ length q → (p ≡ q) × (x ≡ y)
same_length [] [] x y e len = (refl, e)
same_length [] (b ∷ q) x y e len = absurd (omega arith)
same_length (a ∷ p) [] x y e len = absurd (omega arith)
same_length (a ∷ p) (b ∷ q) x y e len =
    let heads : a ≡ b = cc (e) in
    let rest = same_length p q x y (cc (e)) (omega arith) in (cc (heads, rest.0), rest.1)

head_of : (p x : List ℕ) → 0 < length p → slice_index (p ++ x) 0 ≡ slice_index p 0
head_of [] x lt = absurd (omega arith)
head_of (a ∷ p) x lt = refl

no_blank : (b : ℕ) → IsSpace b → b ≡ 123 → ⊥
no_blank b blank head = no_space b (omega (arith, head)) blank

-- an object is no beginning of a list whose beginnings up to there are deep
not_in : (p q x y : List ℕ) → IsBalanced p → ((k : ℕ) → 0 < k → k ≤ length q → 0 < depth (take k q))
    → p ++ x ≡ q ++ y → length p ≤ length q → ⊥
not_in p q x y o inside e le =
    let front : take (length p) q ≡ p = take_front p q x y e le in
    let deep : 0 < depth p = subst (λ (l : List ℕ). 0 < depth l) front (inside (length p) o.begins.0 le) in
    omega (arith, o.ends, deep)

not_shorter : (p q x y : List ℕ) → IsBalanced p → IsBalanced q → p ++ x ≡ q ++ y → length p < length q → ⊥
not_shorter p q x y a b e lt =
    let front : take (length p) q ≡ p = take_front p q x y e (omega arith) in
    let deep : 0 < depth p = subst (λ (l : List ℕ). 0 < depth l) front (b.inside (length p) a.begins.0 lt) in
    omega (arith, a.ends, deep)

-- no part begins another
one_balanced : (o q x y : List ℕ) → IsBalanced o → IsBalanced q → o ++ x ≡ q ++ y → (o ≡ q) × (x ≡ y)
one_balanced o q x y s t e = ⊎_elim (λ (same : length o ≡ length q). same_length o q x y e same)
    (λ (r : (length o < length q) ⊎ (length q < length o)). ⊎_elim
    (λ (lt : length o < length q). absurd (not_shorter o q x y s t e lt))
    (λ (lt : length q < length o). absurd (not_shorter q o y x t s (sym e) lt)) r)
    (cases_order (length o) (length q))

blank_object : (b : ℕ) (q x y : List ℕ) → IsSpace b → IsBalanced q → b ∷ x ≡ q ++ y → ⊥
blank_object b q x y blank o e = no_blank b blank
    (ap (λ l. slice_index l 0) e ∙ head_of q y o.begins.0 ∙ o.begins.1)

one_part : (most : ℕ) (p q : Part) (x y : List ℕ) → IsPart most p → IsPart most q → bytes_of p ++ x ≡ bytes_of q ++ y
    → (p ≡ q) × (x ≡ y)
one_part most (Space b) (Space c) x y s t e = (cc (e), cc (e))
one_part most (Space b) (Object q) x y s t e = absurd (blank_object b q x y s t.balanced e)
one_part most (Object o) (Space c) x y s t e = absurd (blank_object c o y x t s.balanced (sym e))
one_part most (Object o) (Object q) x y s t e = let r = one_balanced o q x y s.balanced t.balanced e in (ap Object r.0, r.1)

-- what is within the limits does not begin with a fault
broken : {most : ℕ} (v before : List ℕ) (byte : ℕ) (f : FrameError) → slice_index v 0 ≡ 123
    → IsWithinLimits most v
    → take (length (before ++ byte ∷ [])) v ≡ before ++ byte ∷ [] → length (before ++ byte ∷ []) ≤ length v
    → Breaks most before byte f → ⊥
broken [] before byte f head limits front le breaks = omega (arith, length-append before (byte ∷ []))
broken (a ∷ v) [] byte NotObject head limits front le breaks =
    breaks.2 (sym (ap (λ l. slice_index l 0) front) ∙ head)
broken (a ∷ v) (x ∷ before) byte NotObject head limits front le breaks = omega (arith, breaks.0)
broken (a ∷ v) before byte TooDeep head limits front le breaks =
    let low : depth (before ++ byte ∷ []) ≤ most_nesting =
    subst (λ (l : List ℕ). depth l ≤ most_nesting) front (limits.nests (length (before ++ byte ∷ []))) in
    omega (arith, low, breaks.1)
broken (a ∷ v) before byte TooLong head limits front le breaks =
    omega (arith, length-append before (byte ∷ []), breaks.0, le, limits.fits)
broken (a ∷ v) before byte NoMemory head limits front le breaks = breaks

-- a list that begins with a fault and with v
fault_in : {most : ℕ} (r v x : List ℕ) (f : FrameError) (h : HasFault most r f) → slice_index v 0 ≡ 123
    → IsWithinLimits most v → r ≡ v ++ x → length h.before < length v → ⊥
fault_in r v x f h head limits e lt =
    let w = h.before ++ h.byte ∷ [] in
    let le : length w ≤ length v = omega (arith, length-append h.before (h.byte ∷ [])) in
    let same : w ++ h.more ≡ v ++ x = append_assoc h.before (h.byte ∷ []) h.more ∙ sym h.whole ∙ e in
    broken v h.before h.byte f head limits (take_front w v h.more x same le) le h.breaks

-- what is unfinished has no fault
unfinished_sound : {most : ℕ} (u : List ℕ) (f : FrameError) → IsUnfinished most u → HasFault most u f → ⊥
unfinished_sound u f is h =
    let lt : length h.before < length u = omega
    (arith, ap length h.whole, length-append h.before (h.byte ∷ h.more)) in
    fault_in u u [] f h (is.begun.begins (omega arith)) is.limits (sym (append-nil u)) lt

blank_fault : (most : ℕ) (b : ℕ) (more before : List ℕ) (byte : ℕ) (after : List ℕ) (f : FrameError) → IsSpace b
    → b ∷ more ≡ before ++ byte ∷ after → IsUnfinished most before → Breaks most before byte f → ⊥
blank_fault most b more (a ∷ before) byte after f blank e is breaks =
    no_blank b blank (ap (λ l. slice_index l 0) e ∙ is.begun.begins (omega arith))
blank_fault most b more [] byte after NotObject blank e is breaks = let same : b ≡ byte =
    cc (e) in breaks.1 (subst IsSpace same blank)
blank_fault most b more [] byte after TooDeep blank e is breaks = omega (arith, breaks.0)
blank_fault most b more [] byte after TooLong blank e is breaks =
    let same : b ≡ byte = cc (e) in no_blank b blank (same ∙ breaks.2 refl)
blank_fault most b more [] byte after NoMemory blank e is breaks = breaks

-- no part begins an ending
no_part : (most : ℕ) (p : Part) (r more : List ℕ) (ending : Ending) → IsPart most p → EndsAs most r ending → r ≡ bytes_of p ++ more
    → ⊥
no_part most (Space b) r more (Rest s) part ends e =
    let lt : 0 < length r = omega (arith, ap length e) in
    no_blank b part (sym (ap (λ l. slice_index l 0) e) ∙ ends.1.begun.begins lt)
no_part most (Object o) r more (Rest s) part ends e =
    not_in o r more [] part.balanced ends.1.begun.inside (sym e ∙ sym (append-nil r))
    (omega (arith, ap length e, length-append o more))
no_part most (Space b) r more (Fault f) part ends e =
    blank_fault most b more ends.before ends.byte ends.more f part (sym e ∙ ends.whole) ends.unfinished ends.breaks
no_part most (Object o) r more (Fault f) part ends e = ⊎_elim
    (λ (lt : length ends.before < length o). fault_in r o more f ends part.balanced.begins.1 part.limits e lt)
    (λ (le : length o ≤ length ends.before). not_in o ends.before more (ends.byte ∷ ends.more) part.balanced
    ends.unfinished.begun.inside (sym e ∙ ends.whole) le)
    (cases_lt (length ends.before) (length o))

same_fault : (most : ℕ) (u : List ℕ) (b : ℕ) (f g : FrameError) → Breaks most u b f → Breaks most u b g → f ≡ g
same_fault most u b NotObject NotObject x y = refl
same_fault most u b NotObject TooDeep x y = absurd (omega (arith, x.0, y.0))
same_fault most u b NotObject TooLong x y = absurd (x.2 (y.2 x.0))
same_fault most u b TooDeep NotObject x y = absurd (omega (arith, x.0, y.0))
same_fault most u b TooDeep TooDeep x y = refl
same_fault most u b TooDeep TooLong x y = absurd (omega (arith, x.1, y.1))
same_fault most u b TooLong NotObject x y = absurd (y.2 (x.2 y.0))
same_fault most u b TooLong TooDeep x y = absurd (omega (arith, x.1, y.1))
same_fault most u b TooLong TooLong x y = refl
same_fault most u b NoMemory g x y = absurd x
same_fault most u b f NoMemory x y = absurd y

one_fault : {most : ℕ} (r : List ℕ) (f g : FrameError) → HasFault most r f → HasFault most r g → f ≡ g
one_fault {most} r f g a b = ⊎_elim
    (λ (same : length a.before ≡ length b.before).
    let s = same_length a.before b.before (a.byte ∷ a.more) (b.byte ∷ b.more) (sym a.whole ∙ b.whole) same in
    let byte : a.byte ≡ b.byte = cc (s.1) in
    same_fault most b.before b.byte f g (subst (λ (u : List ℕ). Breaks most u b.byte f) s.0
    (subst (λ (c : ℕ). Breaks most a.before c f) byte a.breaks)) b.breaks)
    (λ (r' : (length a.before < length b.before) ⊎ (length b.before < length a.before)). ⊎_elim
    (λ (lt : length a.before < length b.before). absurd
    (fault_in r b.before (b.byte ∷ b.more) f a (b.unfinished.begun.begins (omega arith)) b.unfinished.limits
    b.whole lt))
    (λ (lt : length b.before < length a.before). absurd
    (fault_in r a.before (a.byte ∷ a.more) g b (a.unfinished.begun.begins (omega arith)) a.unfinished.limits
    a.whole lt)) r')
    (cases_order (length a.before) (length b.before))

one_ending : (most : ℕ) (r : List ℕ) (e f : Ending) → EndsAs most r e → EndsAs most r f → e ≡ f
one_ending most r (Rest s) (Rest t) a b = ap Rest (sym a.0 ∙ b.0)
one_ending most r (Rest s) (Fault g) a b = absurd (unfinished_sound r g a.1 b)
one_ending most r (Fault f) (Rest t) a b = absurd (unfinished_sound r f b.1 a)
one_ending most r (Fault f) (Fault g) a b = ap Fault (one_fault r f g a b)

one_split : (most : ℕ) (ps qs : List Part) (r s : List ℕ) (e f : Ending) → joined ps ++ r ≡ joined qs ++ s → All (IsPart most) ps
    → All (IsPart most) qs → EndsAs most r e → EndsAs most s f → (ps ≡ qs) × (e ≡ f)
one_split most [] [] r s e f is a b c d = (refl, one_ending most r e f c (subst (λ (l : List ℕ). EndsAs most l f) (sym is) d))
one_split most [] (q ∷ qs) r s e f is a b c d =
    absurd (no_part most q r (joined qs ++ s) e (All-head (IsPart most) q qs b) c
    (is ∙ append_assoc (bytes_of q) (joined qs) s))
one_split most (p ∷ ps) [] r s e f is a b c d =
    absurd (no_part most p s (joined ps ++ r) f (All-head (IsPart most) p ps a) d
    (sym is ∙ append_assoc (bytes_of p) (joined ps) r))
one_split most (p ∷ ps) (q ∷ qs) r s e f is a b c d =
    let onward : bytes_of p ++ (joined ps ++ r) ≡ bytes_of q ++ (joined qs ++ s) =
    sym (append_assoc (bytes_of p) (joined ps) r) ∙ is ∙ append_assoc (bytes_of q) (joined qs) s in
    let first = one_part most p q (joined ps ++ r) (joined qs ++ s) (All-head (IsPart most) p ps a)
    (All-head (IsPart most) q qs b) onward in
    let rest = one_split most ps qs r s e f first.1 (All-tail (IsPart most) p ps a) (All-tail (IsPart most) q qs b) c d in
    (cc (first.0, rest.0), rest.1)

pub once : {most : ℕ} (stream : List ℕ) (found others : List (List ℕ)) (ending other : Ending)
    → AreFrames most stream found ending → AreFrames most stream others other → (found ≡ others) × (ending ≡ other)
once {most} stream found others ending other a b =
    let r = one_split most a.parts b.parts a.rest b.rest ending other (sym a.whole ∙ b.whole) a.each b.each a.ends
    b.ends in
    (sym a.found_are ∙ ap objects r.0 ∙ b.found_are, r.1)
