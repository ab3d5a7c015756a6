-- The depth is the openers less the closers.
use Rattle.std.proofs.Common.{◌≡◌, ℕ, zero, suc, ◌+◌, ◌-◌, ◌<◌, ◌≤◌, ◌⊎◌, ⊎_elim, inl, inr, Bool, true, false, ◌==◌, cond, List, [], ◌∷◌, ◌++◌, length, take, fold, get_or, slice_index, refl, sym, ap, ◌∙◌, subst, arith, add-one}
use Rattle.std.specs.Prelude.{count_by}
use Rattle.std.proofs.lemmas.Bool.{eqb-true, true≢false, cases_lt, or_cases}
use Rattle.std.proofs.lemmas.List.{take_more, take_all}
use Rattle.std.proofs.Math.Seq.{take-length}
use Rattle.std.proofs.lemmas.List.Sums.{sum_by-append}
use Rattle.ovs_wire.specs.Depth.{Side, Outside, Inside, Escaped, next, outside, is_opener, is_closer, depth, openers, closers}
use Rattle.ovs_wire.specs.ScanPosition.{side_after}
use Rattle.ovs_wire.specs.Frames.{IsBalanced, IsBegun}
use Rattle.ovs_wire.proofs.Depths.{level_at, depth_more}

outside_append : (side : Side) (x y : List ℕ)
    → outside side (x ++ y) ≡ outside side x ++ outside (fold next side x) y
outside_append side [] y = refl
outside_append Outside (b ∷ x) y = ap (λ l. b ∷ l) (outside_append (next Outside b) x y)
outside_append Inside (b ∷ x) y = outside_append (next Inside b) x y
outside_append Escaped (b ∷ x) y = outside_append Inside x y

-- one for a byte outside strings that passes the test
abbrev here : (ℕ → Bool) → Side → ℕ → ℕ
here test side b = count_by test (outside side (b ∷ []))

outside_none : (side : Side) → outside side [] ≡ []
outside_none Outside = refl
outside_none Inside = refl
outside_none Escaped = refl

here_outside : (test : ℕ → Bool) (b : ℕ) → here test Outside b ≡ cond (test b) 1 0
here_outside test b = subst (λ (l : List ℕ). count_by test (b ∷ l) ≡ cond (test b) 1 0)
    (sym (outside_none (next Outside b))) (omega arith)

counted_more : (test : ℕ → Bool) (x : List ℕ) (b : ℕ)
    → count_by test (outside Outside (x ++ b ∷ [])) ≡ count_by test (outside Outside x) + here test (side_after x) b
counted_more test x b = ap (count_by test) (outside_append Outside x (b ∷ [])) ∙ sum_by-append
    (λ c. cond (test c) 1 0) (outside Outside x) (outside (side_after x) (b ∷ []))

opener_no_closer : (b : ℕ) → is_opener b ≡ true → is_closer b ≡ true → ⊥
opener_no_closer b opens closes = ⊎_elim
    (λ (e : (b == 123) ≡ true). true≢false (sym closes ∙ ap is_closer (eqb-true b 123 e)))
    (λ (e : (b == 91) ≡ true). true≢false (sym closes ∙ ap is_closer (eqb-true b 91 e)))
    (or_cases (b == 123) (b == 91) opens)

-- a byte outside strings, by what it is
outside_by : (o c : Bool) (level opened closed : ℕ) → (o ≡ true → c ≡ true → ⊥) → closed + level ≡ opened
    → (0 < level) ⊎ (o ≡ true)
    → closed + cond c 1 0 + cond o (level + 1) (cond c (level - 1) level) ≡ opened + cond o 1 0
outside_by true true level opened closed other same inner = absurd (other refl refl)
outside_by true false level opened closed other same inner = omega arith
outside_by false true level opened closed other same (inl above) = omega arith
outside_by false true level opened closed other same (inr no_opener) = absurd (true≢false (sym no_opener))
outside_by false false level opened closed other same inner = omega arith

at_byte : (side : Side) (b level opened closed : ℕ) → closed + level ≡ opened → (0 < level) ⊎ (is_opener b ≡ true)
    → closed + here is_closer side b + level_at side level b ≡ opened + here is_opener side b
at_byte Outside b level opened closed same inner = omega (
  arith,
  here_outside is_closer b,
  here_outside is_opener b,
  outside_by (is_opener b) (is_closer b) level opened closed (opener_no_closer b) same inner,
)
at_byte Inside b level opened closed same inner = omega (arith, same)
at_byte Escaped b level opened closed same inner = omega (arith, same)

abbrev IsCounted : List ℕ → Type 0
IsCounted x = closers x + depth x ≡ openers x

counted_on : (x : List ℕ) (b : ℕ) → IsCounted x → (0 < depth x) ⊎ (is_opener b ≡ true) → IsCounted (x ++ b ∷ [])
counted_on x b same inner = omega (
  arith,
  counted_more is_closer x b,
  counted_more is_opener x b,
  depth_more x b,
  at_byte (side_after x) b (depth x) (openers x) (closers x) same inner,
)

-- every place of bytes that begin with { and are above level 0 inside
counted_to : (u : List ℕ) (k : ℕ) → (0 < length u → slice_index u 0 ≡ 123)
    → ((i : ℕ) → 0 < i → i < length u → 0 < depth (take i u)) → k ≤ length u → IsCounted (take k u)
counted_to u zero head inside le = refl
counted_to u (suc k) head inside le =
    let lt : k < length u = omega arith in
    let before = counted_to u k head inside (omega arith) in
    let first : k ≡ 0 → get_or u k 0 ≡ 123 = λ e. ap (λ i. get_or u i 0) e ∙ head (omega arith) in
    subst IsCounted (sym (ap (λ i. take i u) (sym (add-one k)) ∙ take_more u k 0 lt))
    (counted_on (take k u) (get_or u k 0) before
    (⊎_elim (λ (more : 0 < k). inl (inside k more lt))
    (λ (none : k ≤ 0). inr (ap is_opener (first (omega arith)))) (cases_lt 0 k)))

counted_at : (u : List ℕ) (k : ℕ) → (0 < length u → slice_index u 0 ≡ 123)
    → ((i : ℕ) → 0 < i → i < length u → 0 < depth (take i u)) → IsCounted (take k u)
counted_at u k head inside = ⊎_elim (λ (lt : k < length u). counted_to u k head inside (omega (arith, lt)))
    (λ (le : length u ≤ k). subst IsCounted (take-length u ∙ sym (take_all k u le))
    (counted_to u (length u) head inside (omega arith))) (cases_lt k (length u))

pub balanced_counted : (o : List ℕ) (k : ℕ) → IsBalanced o → closers (take k o) + depth (take k o) ≡ openers (take k o)
balanced_counted o k is = counted_at o k (λ _. is.begins.1) is.inside

pub begun_counted : (r : List ℕ) (k : ℕ) → IsBegun r → closers (take k r) + depth (take k r) ≡ openers (take k r)
begun_counted r k is = counted_at r k is.begins (λ i more lt. is.inside i more (omega (arith, lt)))
