-- An id among the first steps of a list.
use Rattle.std.proofs.Common.{◌≡◌, ◌∙◌, ℕ, suc, ◌+◌, ◌≤◌, ◌<◌, ◌==◌, ◌⊎◌, ⊎_elim, inl, inr, Bool, true, false, cond, fold, List, [], ◌∷◌, ◌++◌, Option, Some, None, length, length-append, append_assoc, refl, sym, ap, subst, arith}
use Rattle.std.proofs.lemmas.Bool.{le-leb, lt-leb, ne_eqb}
use Rattle.std.proofs.lemmas.List.{append-nil}
use Rattle.std.specs.Prelude.{nat_le}
use Rattle.std.specs.List.{list_any, position_from}
use mathlib.Core.List.{IsPrefix}
use Rattle.ovs_types.specs.Schema.{SchemaValue}
use Rattle.ovs_links.specs.Absorbing.{begins_anew, chain_with, folded_by, last_chain}
use Rattle.ovs_links.specs.StepChains.{position_in, start_of_steps}
use Rattle.ovs_links.proofs.AbsorbingLemmas.{true_false}
use Rattle.ovs_links.specs.declared.step.Step.{Step}
use Rattle.ovs_views.specs.Published.{is_shown}

-- a place that is found is no more than this
abbrev pub is_within : ℕ → Option ℕ → Bool
is_within most None = false
is_within most (Some place) = nat_le place most

beyond : (ss : List Step) (i n m : ℕ) → m < n → is_within m (position_from (λ (x : Step). x.id == i) n ss) ≡ false
beyond [] i n m far = refl
beyond (s ∷ ss) i n m far = by (s.id == i) (beyond ss i (n + 1) m (omega (arith, far)))
  where
    by : (b : Bool) → is_within m (position_from (λ (x : Step). x.id == i) (n + 1) ss) ≡ false → is_within m (cond b (Some n) (position_from (λ (x : Step). x.id == i) (n + 1) ss)) ≡ false
    by true later = lt-leb n m far
    by false later = later

-- where the place is counted from one above n
abbrev Among : List Step → List Step → ℕ → ℕ → Type 0
Among first rest i n = is_within (n + length first) (position_from (λ (x : Step). x.id == i) (suc n) (first ++ rest)) ≡ list_any (λ (x : Step). x.id == i) first

among_by : (s : Step) (ss rest : List Step) (i n : ℕ) (b : Bool) → (s.id == i) ≡ b → Among ss rest i (suc n) → Among (s ∷ ss) rest i n
among_by s ss rest i n true is later = rw is (le-leb (suc n) (n + length (s ∷ ss)) (omega arith))
among_by s ss rest i n false is later =
    let far : suc n + length ss ≡ n + length (s ∷ ss) = omega arith in
    let next : suc (suc n) ≡ suc n + 1 = omega arith in
    rw is (subst (λ (k : ℕ). is_within k (position_from (λ (x : Step). x.id == i) (suc n + 1) (ss ++ rest)) ≡ list_any (λ (x : Step). x.id == i) ss) far
    (subst (λ (k : ℕ). is_within (suc n + length ss) (position_from (λ (x : Step). x.id == i) k (ss ++ rest)) ≡ list_any (λ (x : Step). x.id == i) ss) next later))

among : (first rest : List Step) (i n : ℕ) → Among first rest i n
among [] rest i n = beyond rest i (suc n) (n + 0) (omega arith)
among (s ∷ ss) rest i n = among_by s ss rest i n (s.id == i) refl (among ss rest i (suc n))

-- ---- the last chain of the steps that are known, and that of all

more_append : (cs xs ys : List Step) → fold chain_with cs (xs ++ ys) ≡ fold chain_with (fold chain_with cs xs) ys
more_append cs [] ys = refl
more_append cs (x ∷ xs) ys = more_append (chain_with cs x) xs ys

-- a chain goes on with all that comes, or what it becomes is of what comes alone
abbrev GoesOnWith : List Step → List Step → List Step → Type 0
GoesOnWith cs rest all = (cs ++ rest ≡ all) ⊎ (length all ≤ length rest)

anew_with : (cs : List Step) (s : Step) (ss all : List Step) → GoesOnWith (s ∷ []) ss all → GoesOnWith cs (s ∷ ss) all
anew_with cs s ss all (inl e) = inr (let n = ap length e in omega (arith, n))
anew_with cs s ss all (inr le) = inr (omega (arith, le))

more_with : (cs : List Step) (s : Step) (ss all : List Step) → GoesOnWith (cs ++ s ∷ []) ss all → GoesOnWith cs (s ∷ ss) all
more_with cs s ss all (inl e) = inl (sym (append_assoc cs (s ∷ []) ss) ∙ e)
more_with cs s ss all (inr le) = inr (omega (arith, le))

step_with : (cs : List Step) (s : Step) (ss : List Step) (b : Bool) → GoesOnWith (cond b (s ∷ []) (cs ++ s ∷ [])) ss (fold chain_with (cond b (s ∷ []) (cs ++ s ∷ [])) ss)
    → GoesOnWith cs (s ∷ ss) (fold chain_with (cond b (s ∷ []) (cs ++ s ∷ [])) ss)
step_with cs s ss true later = anew_with cs s ss (fold chain_with (s ∷ []) ss) later
step_with cs s ss false later = more_with cs s ss (fold chain_with (cs ++ s ∷ []) ss) later

goes_on_with : (cs rest : List Step) → GoesOnWith cs rest (fold chain_with cs rest)
goes_on_with cs [] = inl (append-nil cs)
goes_on_with cs (s ∷ ss) = step_with cs s ss (begins_anew cs s) (goes_on_with (chain_with cs s) ss)

-- where steps of the last chain are known
abbrev KnowsSome : List Step → List Step → Type 0
KnowsSome known all = length all < length known + length (last_chain all)

parted : (known rest : List Step) → KnowsSome known (known ++ rest) → last_chain known ++ rest ≡ last_chain (known ++ rest)
parted known rest some =
    ⊎_elim (λ (e : last_chain known ++ rest ≡ fold chain_with (last_chain known) rest). e ∙ sym (more_append [] known rest))
    (λ (le : length (fold chain_with (last_chain known) rest) ≤ length rest).
    absurd (let n = ap length (more_append [] known rest) in let m = length-append known rest in omega (arith, le, n, m, some)))
    (goes_on_with (last_chain known) rest)

start_before : (xs rest : List Step) → 0 < length xs → start_of_steps (xs ++ rest) ≡ start_of_steps xs
start_before [] rest some = absurd (omega (arith, some))
start_before (x ∷ xs) rest some = refl

-- they begin it, and are all but those before it
abbrev AreOfChain : List Step → List Step → ℕ → Type 0
AreOfChain known all n = (n ≡ length (last_chain known)) × IsPrefix (last_chain known) (last_chain all) × (start_of_steps (last_chain known) ≡ start_of_steps (last_chain all))

of_chain_by : (known rest : List Step) (n : ℕ) → n + length (known ++ rest) ≡ length known + length (last_chain (known ++ rest)) → 0 < n → AreOfChain known (known ++ rest) n
of_chain_by known rest n is some =
    let whole = parted known rest (omega (arith, is, some)) in
    let size = length-append (last_chain known) rest in
    let all = length-append known rest in
    let same = ap length whole in
    let count : n ≡ length (last_chain known) = omega (arith, is, size, all, same) in
    (count, (rest, whole), sym (start_before (last_chain known) rest (omega (arith, count, some))) ∙ ap start_of_steps whole)

pub of_chain : (known all : List Step) (n : ℕ) → IsPrefix known all → n + length all ≡ length known + length (last_chain all) → 0 < n → AreOfChain known all n
of_chain known all n (rest, whole) is some =
    subst (λ (l : List Step). AreOfChain known l n) whole (of_chain_by known rest n (subst (λ (l : List Step). n + length l ≡ length known + length (last_chain l)) (sym whole) is) some)

-- ---- an id that they show

-- a position among the steps of the chain that are known is that of an id that is shown, which isn't before the chain
pub known_by : (schema : SchemaValue) (known all : List Step) (i n : ℕ) → AreOfChain known all n → nat_le i (start_of_steps (last_chain all)) ≡ false
    → is_within n (position_in (folded_by schema all) i) ≡ is_shown known i
known_by schema known all i n (count, (rest, whole), start) behind =
    let begins : nat_le i (start_of_steps (last_chain known)) ≡ false = ap (nat_le i) start ∙ behind in
    let other : (i == start_of_steps (last_chain all)) ≡ false =
    ne_eqb i (start_of_steps (last_chain all)) (λ e. absurd (true_false (sym (le-leb i (start_of_steps (last_chain all)) (omega (arith, e))) ∙ behind))) in
    let known_first = subst (λ (k : ℕ). is_within k (position_from (λ (x : Step). x.id == i) 1 (last_chain known ++ rest)) ≡ list_any (λ (x : Step). x.id == i) (last_chain known))
    (omega arith) (among (last_chain known) rest i 0) in
    rw begins (rw other (rw count (subst (λ (l : List Step). is_within (length (last_chain known)) (position_from (λ (x : Step). x.id == i) 1 l) ≡ list_any (λ (x : Step). x.id == i) (last_chain known)) whole known_first)))

-- an id at which the chain begins, or that is before it, is shown
pub shown_before : (known all : List Step) (i n : ℕ) → AreOfChain known all n → i ≤ start_of_steps (last_chain all) → true ≡ is_shown known i
shown_before known all i n (count, begins, start) before =
    let le : nat_le i (start_of_steps (last_chain known)) ≡ true = le-leb i (start_of_steps (last_chain known)) (omega (arith, start, before)) in
    rw le refl

pub shown_zero : (known : List Step) (i : ℕ) → i ≡ 0 → true ≡ is_shown known i
shown_zero known i is = let le : nat_le i (start_of_steps (last_chain known)) ≡ true = le-leb i (start_of_steps (last_chain known)) (omega (arith, is)) in rw le refl
