-- Where a list of bytes has its first LF.
use Rattle.std.proofs.Common.{◌≡◌, ℕ, ◌+◌, ◌-◌, ◌≤◌, ◌<◌, List, [], ◌∷◌, ◌++◌, length, take, drop, ap, sym, ◌∙◌, arith, refl, Bool, true, false, nat_eq, nat_lt, subst, cond, append_assoc, get_or, get_or-take, suc, None, Some, eqb-true, not}
use Rattle.std.proofs.lemmas.Grind.{common_steps}
use Rattle.std.proofs.lemmas.List.{drop-drop, drop-take}
use Rattle.std.proofs.lemmas.List.Sums.{fails_before_first, split_at_first, prefix_len_stops}
use Rattle.std.specs.List.{slice_range, onto_first, position_or_len, position, before_first, after_first}
use Rattle.ovs_script.specs.Lines.{lines_of, ended_lines, before_first as onto_ended, IsUnbroken}

-- what is left of a range after its first n bytes
pub slice_range-skip : (xs : List ℕ) (from to n : ℕ) → n ≤ length (slice_range xs from to)
    → slice_range xs (from + n) to ≡ drop n (slice_range xs from to)
slice_range-skip xs from to n within =
    let short : length (slice_range xs from to) ≤ to - from = grind (arith, common_steps) in
    ap (take (to - (from + n))) (sym (drop-drop n from xs)) ∙ sym (drop-take n (to - (from + n)) (drop from xs))
    ∙ ap (λ k. drop n (take k (drop from xs))) (omega arith)

pub IsUnbroken-append : (a b : List ℕ) → IsUnbroken a → IsUnbroken b → IsUnbroken (a ++ b)
IsUnbroken-append [] b whole more = more
IsUnbroken-append (x ∷ a) b whole more = (whole.0, IsUnbroken-append a b whole.1 more)

-- a line that LF ends
pub lines_of-ended : (line rest : List ℕ) → IsUnbroken line → lines_of (line ++ 10 ∷ rest) ≡ line ∷ lines_of rest
lines_of-ended [] rest unbroken = refl
lines_of-ended (b ∷ line) rest unbroken = rw unbroken.0 (ap (onto_first b) (lines_of-ended line rest unbroken.1))

-- a last line, which lacks its LF
pub lines_of-last : (line : List ℕ) → IsUnbroken line → 0 < length line → lines_of line ≡ line ∷ []
lines_of-last [] unbroken some = absurd (omega arith)
lines_of-last (b ∷ []) unbroken some = rw unbroken.0 refl
lines_of-last (b ∷ c ∷ line) unbroken some = rw unbroken.0 (ap (onto_first b) (lines_of-last (c ∷ line) unbroken.1 (omega arith)))

unbroken_by : (xs : List ℕ) → ((k : ℕ) → k < length xs → nat_eq (get_or xs k 0) 10 ≡ false) → IsUnbroken xs
unbroken_by [] each = tt
unbroken_by (x ∷ xs) each = (each 0 (omega arith), unbroken_by xs (λ k within. each (suc k) (omega arith)))

abbrev pub is_break : ℕ → Bool
is_break b = nat_eq b 10

unbroken_before : (xs : List ℕ) → IsUnbroken (before_first is_break xs)
unbroken_before xs = unbroken_by (before_first is_break xs) (λ k within.
    let below : k < position_or_len is_break xs = grind (arith, common_steps) in
    rw (get_or-take (position_or_len is_break xs) xs k 0 below) (fails_before_first is_break xs k 0 below))

take_all : (xs : List ℕ) → nat_lt (position_or_len is_break xs) (length xs) ≡ false → take (position_or_len is_break xs) xs ≡ xs
take_all xs past = grind (arith, common_steps)

-- no position is found
pub unbroken_where_none : (xs : List ℕ) → None ≡ position is_break xs → IsUnbroken xs
unbroken_where_none xs found =
    elim (nat_lt (position_or_len is_break xs) (length xs)) as
    (λ v. None ≡ cond v (Some (position_or_len is_break xs)) None → nat_lt (position_or_len is_break xs) (length xs) ≡ v → IsUnbroken xs) [
      | true ↦ λ is test. absurd (let w : None ≡ Some (position_or_len is_break xs) = is in cc)
      | false ↦ λ is test. subst IsUnbroken (take_all xs test) (unbroken_before xs)
    ] found refl

true_where_not_false : (b : Bool) → not b ≡ false → b ≡ true
true_where_not_false true e = refl
true_where_not_false false e = absurd (let w : true ≡ false = e in cc)

-- a list at the position n of its first LF
abbrev pub BreaksAt : List ℕ → ℕ → Type 0
BreaksAt xs n = IsUnbroken (take n xs) × (xs ≡ take n xs ++ 10 ∷ drop (n + 1) xs) × (n < length xs)

pub breaks_where_found : (xs : List ℕ) (n : ℕ) → Some n ≡ position is_break xs → BreaksAt xs n
breaks_where_found xs n found =
    elim (nat_lt (position_or_len is_break xs) (length xs)) as
    (λ v. Some n ≡ cond v (Some (position_or_len is_break xs)) None → nat_lt (position_or_len is_break xs) (length xs) ≡ v → BreaksAt xs n) [
      | true ↦ λ is test.
          let at : position_or_len is_break xs ≡ n = cc in
          let below : position_or_len is_break xs < length xs = grind (arith, common_steps) in
          let it : get_or xs (position_or_len is_break xs) 0 ≡ 10 =
          eqb-true _ _ (true_where_not_false _ (prefix_len_stops (λ x. not (is_break x)) xs 0 below)) in
          subst (BreaksAt xs) at (
            unbroken_before xs,
            split_at_first is_break xs 0 below ∙ ap (λ b. before_first is_break xs ++ b ∷ after_first is_break xs) it,
            below,
          )
      | false ↦ λ is test. absurd (let w : Some n ≡ None = is in cc)
    ] found refl

-- ---- lines that LF ends

-- no LF is in any of these
abbrev pub AreUnbroken : List (List ℕ) → Type 0
AreUnbroken [] = Unit {0}
AreUnbroken (line ∷ lines) = IsUnbroken line × AreUnbroken lines

pub AreUnbroken-append : (a b : List (List ℕ)) → AreUnbroken a → AreUnbroken b → AreUnbroken (a ++ b)
AreUnbroken-append [] b whole more = more
AreUnbroken-append (x ∷ a) b whole more = (whole.0, AreUnbroken-append a b whole.1 more)

-- the lines, each with its LF
abbrev pub text_of : List (List ℕ) → List ℕ
text_of [] = []
text_of (line ∷ lines) = line ++ 10 ∷ text_of lines

pub text_of-append : (a b : List (List ℕ)) → text_of (a ++ b) ≡ text_of a ++ text_of b
text_of-append [] b = refl
text_of-append (line ∷ a) b = ap (λ l. line ++ 10 ∷ l) (text_of-append a b) ∙ sym (append_assoc line (10 ∷ text_of a) (text_of b))

ended_lines-ended : (line rest : List ℕ) → IsUnbroken line → ended_lines (line ++ 10 ∷ rest) ≡ line ∷ ended_lines rest
ended_lines-ended [] rest unbroken = refl
ended_lines-ended (b ∷ line) rest unbroken = rw unbroken.0 (ap (onto_ended b) (ended_lines-ended line rest unbroken.1))

ended_lines-none : (part : List ℕ) → IsUnbroken part → ended_lines part ≡ []
ended_lines-none [] unbroken = refl
ended_lines-none (b ∷ part) unbroken = rw unbroken.0 (ap (onto_ended b) (ended_lines-none part unbroken.1))

-- a part behind lines that LF ended
pub ended_lines-text_of : (lines : List (List ℕ)) (part : List ℕ) → AreUnbroken lines → IsUnbroken part → ended_lines (text_of lines ++ part) ≡ lines
ended_lines-text_of [] part each unbroken = ended_lines-none part unbroken
ended_lines-text_of (line ∷ lines) part each unbroken =
    ap ended_lines (append_assoc line (10 ∷ text_of lines) part) ∙ ended_lines-ended line (text_of lines ++ part) each.0
    ∙ ap (λ ls. line ∷ ls) (ended_lines-text_of lines part each.1 unbroken)

onto_both : (b : ℕ) (ended all : List (List ℕ)) → (others : List (List ℕ)) × (all ≡ ended ++ others)
    → (others : List (List ℕ)) × (onto_first b all ≡ onto_ended b ended ++ others)
onto_both b [] all (others, is) = (onto_first b all, refl)
onto_both b (line ∷ ended) all (others, is) = (others, ap (onto_first b) is)

-- the lines that LF ends are the first lines of a text
pub ended_first : (text : List ℕ) → (others : List (List ℕ)) × (lines_of text ≡ ended_lines text ++ others)
ended_first [] = ([], refl)
ended_first (b ∷ text) =
    elim (nat_eq b 10) as (λ v. (others : List (List ℕ)) × (cond v ([] ∷ lines_of text) (onto_first b (lines_of text))
    ≡ cond v ([] ∷ ended_lines text) (onto_ended b (ended_lines text)) ++ others)) [
      | true ↦ let rest = ended_first text in (rest.0, ap (λ ls. [] ∷ ls) rest.1)
      | false ↦ onto_both b (ended_lines text) (lines_of text) (ended_first text)
    ]
