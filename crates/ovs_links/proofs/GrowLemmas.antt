-- Chains that go on from another, or begin at a greater start.
use Rattle.std.proofs.Common.{◌≡◌, ◌≤◌, ◌<◌, ◌⊎◌, inl, inr, ⊎_elim, ℕ, zero, suc, List, [], ◌∷◌, ◌++◌, length, take, append_assoc, refl, sym, ap, subst, ◌∙◌, arith}
use Rattle.std.proofs.lemmas.Bool.{cases_lt}
use Rattle.std.proofs.lemmas.List.{append-nil, length-append, take-append-le}
use Rattle.ovs_types.specs.declared.schema.Table.{Table}
use Rattle.ovs_rows.specs.Row.{Rows, no_rows}
use Rattle.ovs_rows.specs.After.{after}
use Rattle.ovs_links.specs.Link.{IsStart}
use Rattle.ovs_links.specs.Chains.{JoinUp, IsChain, IsPrefixOf, GrowsInto, start_of, head_after, rows_after}
use Rattle.ovs_links.specs.Epochs.{Opens, IsLatestChain}
use Rattle.ovs_links.specs.Steps.{step_of, steps_of}
use Rattle.ovs_links.specs.StepChains.{head_after_steps}
use Rattle.ovs_links.specs.declared.link.Link.{Link}
use Rattle.ovs_links.specs.declared.step.Step.{Step}
use Rattle.ovs_links.proofs.ChainLemmas.{IsByPrev, chain_prefix}

pub grows_itself : (ls : List Link) → GrowsInto ls ls
grows_itself ls = record { goes_on = inl ([], append-nil ls) }

pub grows_by : (xs more ys : List Link) → xs ++ more ≡ ys → GrowsInto xs ys
grows_by xs more ys e = record { goes_on = inl (more, e) }

pub grows_later : (xs ys : List Link) → start_of xs < start_of ys → GrowsInto xs ys
grows_later xs ys lt = record { goes_on = inr lt }

-- ---- where they begin

pub head_from_start : (ls : List Link) → head_after (start_of ls) ls ≡ head_after 0 ls
head_from_start [] = refl
head_from_start (l ∷ ls) = refl

-- a link that follows the head doesn't change where the chain begins
pub start_push : (ls : List Link) (l : Link) → l.prev ≡ head_after 0 ls → start_of (ls ++ l ∷ []) ≡ start_of ls
start_push [] l e = e
start_push (x ∷ xs) l e = refl

start_up : (xs ys zs : List Link) → xs ++ ys ≡ zs → start_of xs ≤ start_of zs
start_up [] ys zs e = omega arith
start_up (x ∷ xs) ys zs e = let same = ap start_of e in omega (arith, same)

start_stays : (n : ℕ) (xs ys zs : List Link) → xs ++ ys ≡ zs → n < start_of xs → n < start_of zs
start_stays n xs ys zs e lt = let up = start_up xs ys zs e in omega (arith, up, lt)

-- ---- one after another

goes_on : (xs ys zs : List Link) → IsPrefixOf xs ys ⊎ (start_of xs < start_of ys) → IsPrefixOf ys zs ⊎ (start_of ys < start_of zs) → IsPrefixOf xs zs ⊎ (start_of xs < start_of zs)
goes_on xs ys zs (inl (more, e)) (inl (rest, d)) =
    inl (more ++ rest, sym (append_assoc xs more rest) ∙ ap (λ (ls : List Link). ls ++ rest) e ∙ d)
goes_on xs ys zs (inl (more, e)) (inr lt) = inr (let up = start_up xs more ys e in omega (arith, up, lt))
goes_on xs ys zs (inr lt) (inl (rest, d)) = inr (start_stays (start_of xs) ys rest zs d lt)
goes_on xs ys zs (inr lt) (inr past) = inr (omega (arith, lt, past))

pub grows_on : (xs ys zs : List Link) → GrowsInto xs ys → GrowsInto ys zs → GrowsInto xs zs
grows_on xs ys zs a b = record { goes_on = goes_on xs ys zs a.goes_on b.goes_on }

pub grows_push : (xs ys : List Link) (l : Link) → GrowsInto xs ys → GrowsInto xs (ys ++ l ∷ [])
grows_push xs ys l a = grows_on xs ys (ys ++ l ∷ []) a (grows_by ys (l ∷ []) (ys ++ l ∷ []) refl)

-- ---- chains that begin at the same start

pub grown_length : (xs ys : List Link) → start_of ys ≤ start_of xs → GrowsInto xs ys → length xs ≤ length ys
grown_length xs ys le a =
    ⊎_elim (λ (p : IsPrefixOf xs ys). let all = length-append xs p.0 in let same = ap length p.1 in omega (arith, all, same))
    (λ (lt : start_of xs < start_of ys). absurd (omega (arith, le, lt))) a.goes_on

-- what goes on into the first of some links is the first of them too
first_of : (xs more ls : List Link) (n : ℕ) → xs ++ more ≡ take n ls → xs ≡ take (length xs) ls
first_of [] more ls n e = refl
first_of (x ∷ xs) more ls zero e = absurd cc
first_of (x ∷ xs) more [] (suc n) e = absurd cc
first_of (x ∷ xs) more (l ∷ ls) (suc n) e =
    let first : x ≡ l = cc e in
    let later : xs ++ more ≡ take n ls = cc e in
    (λ i. first i ∷ first_of xs more ls n later i)

pub grown_first : (xs ys ls : List Link) (n : ℕ) → start_of ys ≤ start_of xs → GrowsInto xs ys → ys ≡ take n ls → xs ≡ take (length xs) ls
grown_first xs ys ls n le a e =
    ⊎_elim (λ (p : IsPrefixOf xs ys). first_of xs p.0 ls n (p.1 ∙ e))
    (λ (lt : start_of xs < start_of ys). absurd (omega (arith, le, lt))) a.goes_on

-- a chain begins where that of its set does
pub latest_start : (ts : List Table) (S : Link → Type 0) (ls : List Link) → (c : IsLatestChain ts S ls) → c.start ≡ start_of ls
latest_start ts S [] c =
    ⊎_elim (λ (z : c.start ≡ 0). z)
    (λ (t : (l : Link) × Opens S l × (l.prev ≡ c.start)).
    let more = c.longest.longest (t.0 ∷ []) (record { members = (t.1.member, tt); joined = (t.2, t.1.fits_none, tt) }) in absurd (omega (arith, more))) c.opening.found
latest_start ts S (l ∷ ls) c = sym c.longest.chain.joined.0

-- a chain from a start is a beginning of the whole chain, or begins at a lower start
pub chain_grows : (S : Link → Type 0) → IsByPrev S → (ts : List Table) (ls ms : List Link) → IsStart (start_of ls) → IsChain ts (start_of ls) no_rows S ls
    → IsLatestChain ts S ms → GrowsInto ls ms
chain_grows S k ts [] ms below c long = record { goes_on = inl (ms, refl) }
chain_grows S k ts (l ∷ ls) ms below c long =
    let at = latest_start ts S ms long in
    let most = long.opening.greatest l (record { member = c.members.0; from_start = below; fits_none = c.joined.1 }) in
    ⊎_elim (λ (lt : l.prev < long.start). grows_later (l ∷ ls) ms (subst (λ (i : ℕ). l.prev < i) at lt))
    (λ (le : long.start ≤ l.prev).
    let same : long.start ≡ l.prev = omega (arith, le, most) in
    let here : IsChain ts long.start no_rows S (l ∷ ls) = record { members = c.members; joined = subst (λ (i : ℕ). JoinUp ts i no_rows (l ∷ ls)) (sym same) c.joined } in
    record { goes_on = inl (chain_prefix S k ts long.start no_rows (l ∷ ls) ms here.members long.longest.chain.members here.joined long.longest.chain.joined (long.longest.longest (l ∷ ls) here)) })
    (cases_lt l.prev long.start)

-- ---- the steps

pub steps_append : (ts : List Table) (rows : Rows) (xs ys : List Link) → steps_of ts rows (xs ++ ys) ≡ steps_of ts rows xs ++ steps_of ts (rows_after ts rows xs) ys
steps_append ts rows [] ys = refl
steps_append ts rows (l ∷ xs) ys = ap (λ (ss : List Step). step_of ts rows l ∷ ss) (steps_append ts (after ts rows l.change l.id) xs ys)

-- what was shown of some steps is shown of more that begin where they do
pub shown_more : (from shown head : ℕ) (xs ys : List Step) → (shown ≤ length xs) × (head_after_steps from (take shown xs) ≡ head)
    → (shown ≤ length (xs ++ ys)) × (head_after_steps from (take shown (xs ++ ys)) ≡ head)
shown_more from shown head xs ys (le, e) =
    (let sum = length-append xs ys in omega (arith, le, sum), ap (λ (ss : List Step). head_after_steps from ss) (take-append-le shown xs ys le) ∙ e)
