-- Sessions that are called, and have their turns in that order.
use Rattle.std.proofs.Common.{◌≡◌, ◌∙◌, ◌++◌, ◌∷◌, [], ℕ, List, length, append_assoc, ap, sym, refl, arith}
use mathlib.Core.List.{IsPrefix}

pub prefix_more : (a b c : List ℕ) → IsPrefix a b → IsPrefix b c → IsPrefix a c
prefix_more a b c first more =
    (first.0 ++ more.0, sym (append_assoc a first.0 more.0) ∙ ap (λ (l : List ℕ). l ++ more.0) first.1 ∙ more.1)

same_by : (a b ra rb : List ℕ) → a ++ ra ≡ b ++ rb → length a ≡ length b → a ≡ b
same_by [] [] ra rb is len = refl
same_by [] (y ∷ ys) ra rb is len = absurd (omega (arith, len))
same_by (x ∷ xs) [] ra rb is len = absurd (omega (arith, len))
same_by (x ∷ xs) (y ∷ ys) ra rb is len =
    let less : length xs ≡ length ys = omega (arith, len) in
    let more : xs ++ ra ≡ ys ++ rb = cc in
    let first : x ≡ y = cc in
    let rest : xs ≡ ys = same_by xs ys ra rb more less in
    (λ i. first i ∷ rest i)

-- two beginnings of one list that are as long are the same
pub same_prefix : (a b c : List ℕ) → IsPrefix a c → IsPrefix b c → length a ≡ length b → a ≡ b
same_prefix a b c first second len = same_by a b first.0 second.0 (first.1 ∙ sym second.1) len
