-- A line that is read in parts.
use Rattle.std.proofs.Common.{◌≡◌, ℕ, ◌<◌, List, [], ◌∷◌, ◌++◌, length, ap, sym, ◌∙◌, arith, refl, true, false, nat_lt, subst, cond, append_assoc, append-nil, None, Some, Option, not, inl, inr}
use Rattle.std.proofs.lemmas.Grind.{common_steps}
use Rattle.std.proofs.KnownBytes.{Consumes-kept, prepend_known-nil}
use Rattle.std.specs.Io.KnownBytes.{Consumes, Keeps, IsAtEnd, prepend_known}
use Rattle.ovs_script.specs.Lines.{kept, is_empty_line, lines_of, IsUnbroken, TakesLine, TakesPart}
use Rattle.ovs_script.proofs.Breaks.{lines_of-ended, lines_of-last, IsUnbroken-append}

-- so much of a line was taken of a text, with no LF
pub record PartTaken (before left : Option (List ℕ)) (line : Option (List ℕ)) : Type 0 where
  pub so_far : List ℕ
  pub unbroken : IsUnbroken so_far
  pub is : line ≡ kept so_far
  pub consumed : Consumes before left so_far

-- the line goes on
pub went_on : (before left : Option (List ℕ)) (window rest so_far part : List ℕ) → Consumes before (prepend_known window left) so_far
    → window ≡ part ++ rest → Consumes before (prepend_known rest left) (so_far ++ part)
went_on None left window rest so_far part consumed cut = tt
went_on (Some text) None window rest so_far part consumed cut = absurd consumed
went_on (Some text) (Some more) window rest so_far part consumed cut =
    consumed ∙ ap (λ l. so_far ++ (l ++ more)) cut ∙ ap (λ l. so_far ++ l) (append_assoc part rest more) ∙ sym (append_assoc so_far part (rest ++ more))

-- an LF ends the line
pub took_line : (before left : Option (List ℕ)) (window rest so_far part : List ℕ) (line : Option (List ℕ)) → IsUnbroken so_far → IsUnbroken part
    → Consumes before (prepend_known window left) so_far → window ≡ part ++ 10 ∷ rest → line ≡ kept (so_far ++ part)
    → TakesLine before (prepend_known rest left) (Some line)
took_line None left window rest so_far part line whole more consumed cut is = tt
took_line (Some text) None window rest so_far part line whole more consumed cut is = absurd consumed
took_line (Some text) (Some later) window rest so_far part line whole more consumed cut is =
    let split : text ≡ (so_far ++ part) ++ 10 ∷ (rest ++ later) =
    consumed ∙ ap (λ l. so_far ++ (l ++ later)) cut ∙ ap (λ l. so_far ++ l) (append_assoc part (10 ∷ rest) later)
    ∙ sym (append_assoc so_far part (10 ∷ (rest ++ later))) in
    let unbroken = IsUnbroken-append so_far part whole more in
    (so_far ++ part, ap lines_of split ∙ lines_of-ended (so_far ++ part) (rest ++ later) unbroken, is, unbroken, inl split)

-- what is found at the end of a text, where so much of a line has come
abbrev pub found_at_end : Option (List ℕ) → Option (Option (List ℕ))
found_at_end line = cond (not (is_empty_line line)) (Some line) None

last_some : (line : List ℕ) (last : Option (List ℕ)) → IsUnbroken line → 0 < length line → is_empty_line last ≡ false → last ≡ kept line
    → TakesLine (Some line) (Some []) (found_at_end last)
last_some line last unbroken some not_empty is = rw not_empty (line, lines_of-last line unbroken some, is, unbroken, inr (refl, refl))

not_empty : (b : ℕ) (line : List ℕ) → is_empty_line (kept (b ∷ line)) ≡ false
not_empty b line = elim (nat_lt 16777216 (length (b ∷ line))) as (λ v. is_empty_line (cond v None (Some (b ∷ line))) ≡ false) [
  | true ↦ refl
  | false ↦ grind (arith, common_steps)
]

last_of : (so_far : List ℕ) → IsUnbroken so_far → TakesLine (Some so_far) (Some []) (found_at_end (kept so_far))
last_of [] unbroken = (refl, refl)
last_of (b ∷ line) unbroken = last_some (b ∷ line) (kept (b ∷ line)) unbroken (omega arith) (not_empty b line) refl

-- the text is at its end: the last line has no LF, or there is none
pub took_last : (before left : Option (List ℕ)) (window so_far : List ℕ) (line : Option (List ℕ)) → IsUnbroken so_far
    → Consumes before (prepend_known window left) so_far → window ≡ [] → IsAtEnd left → line ≡ kept so_far
    → TakesLine before (prepend_known window left) (found_at_end line)
took_last None left window so_far line unbroken consumed gone end is = tt
took_last (Some text) None window so_far line unbroken consumed gone end is = absurd consumed
took_last (Some text) (Some later) window so_far line unbroken consumed gone end is =
    let none : window ++ later ≡ [] = ap (λ l. l ++ later) gone ∙ end in
    let all : text ≡ so_far = consumed ∙ ap (λ l. so_far ++ l) none ∙ append-nil so_far in
    subst (λ (r : List ℕ). TakesLine (Some text) (Some r) (found_at_end line)) (sym none) (
    subst (λ (t : List ℕ). TakesLine (Some t) (Some []) (found_at_end line)) (sym all) (
    subst (λ (k : Option (List ℕ)). TakesLine (Some so_far) (Some []) (found_at_end k)) (sym is) (last_of so_far unbroken)))

-- more was read behind a part that held no LF
pub read_on : (before left new : Option (List ℕ)) (window rest : List ℕ) (line next : Option (List ℕ)) (part : List ℕ) → PartTaken before (prepend_known window left) line
    → IsUnbroken part → window ≡ part ++ rest → ((so_far : List ℕ) → line ≡ kept so_far → next ≡ kept (so_far ++ part)) → rest ≡ [] → Keeps left new
    → PartTaken before new next
read_on before left new window rest line next part taken unbroken cut grown none same =
    let gone : prepend_known rest left ≡ left = ap (λ l. prepend_known l left) none ∙ prepend_known-nil left in
    let on = went_on before left window rest taken.so_far part taken.consumed cut in
    record {
      so_far = taken.so_far ++ part;
      unbroken = IsUnbroken-append taken.so_far part taken.unbroken unbroken;
      is = grown taken.so_far taken.is;
      consumed = Consumes-kept before left new (taken.so_far ++ part) (subst (λ l. Consumes before l (taken.so_far ++ part)) gone on) same;
    }

-- a read failed behind a part that held no LF
pub lost_part : (before left new : Option (List ℕ)) (window rest : List ℕ) (line next : Option (List ℕ)) (part : List ℕ) → PartTaken before (prepend_known window left) line
    → IsUnbroken part → window ≡ part ++ rest → ((so_far : List ℕ) → line ≡ kept so_far → next ≡ kept (so_far ++ part)) → rest ≡ [] → Keeps left new
    → TakesPart before new
lost_part before left new window rest line next part taken unbroken cut grown none same =
    let more = read_on before left new window rest line next part taken unbroken cut grown none same in
    (more.so_far, more.unbroken, more.consumed)
