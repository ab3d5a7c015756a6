-- The step that a longer beginning of one list adds.
use Rattle.std.proofs.Common.{◌≡◌, ◌==◌, ◌||◌, Bool, true, false, ◌+◌, ◌-◌, ◌≤◌, ◌⊎◌, ⊎_elim, List, [], ◌∷◌, ◌++◌, length, take, refl, ap, sym, subst, ◌∙◌, arith, length-append}
use Rattle.std.proofs.lemmas.Bool.{ne_eqb}
use mathlib.Core.List.{IsPrefix}
use Rattle.ovs_types.specs.declared.schema.Table.{Table}
use Rattle.ovs_rows.specs.After.{ArePutOf}
use Rattle.ovs_links.specs.Absorbing.{AreStepsPutOf, begins_anew, chain_with, folded_by, last_chain}
use Rattle.ovs_links.specs.StepChains.{start_of_steps}
use Rattle.ovs_links.proofs.AbsorbingLemmas.{begun_start, is_last, last_push, more_start, none_start, onward, true_false}
use Rattle.ovs_reader.specs.Session.{SessionValue, AreStepsOf, MayBeShown}
use Rattle.ovs_reader.proofs.Showing.{later_shown}
use Rattle.ovs_types.specs.Schema.{SchemaValue}
use Rattle.ovs_views.specs.Published.{GoesOn, IsNodeChain}
use Rattle.std.specs.List.{AllByRecursion}
use Rattle.ovs_links.specs.declared.step.Step.{Step}

take_prefix : (xs : List Step) (rest : List Step) → take (length xs) (xs ++ rest) ≡ xs
take_prefix [] rest = refl
take_prefix (x ∷ xs) rest = ap (λ l. x ∷ l) (take_prefix xs rest)

pub next : (xs ys both : List Step) (s : Step) → length ys ≡ length xs + 1 → ys ≡ take (length ys - 1) ys ++ s ∷ [] → (both ≡ xs) ⊎ (both ≡ ys) → IsPrefix xs both → IsPrefix ys both
    → both ≡ xs ++ s ∷ []
next xs ys both s len ends which pre pre' =
    let longer : length ys ≤ length both = omega (arith, sym (ap length pre'.1) ∙ length-append ys pre'.0) in
    let is : both ≡ ys = ⊎_elim (λ (e : both ≡ xs). absurd (omega (arith, ap length e))) (λ (e : both ≡ ys). e) which in
    let from : ys ≡ xs ++ pre.0 = sym is ∙ sym pre.1 in
    let count : length ys - 1 ≡ length xs = omega arith in
    let front : take (length ys - 1) ys ≡ xs = rw count (ap (λ l. take (length xs) l) from ∙ take_prefix xs pre.0) in
    is ∙ ends ∙ ap (λ l. l ++ s ∷ []) front

pub last_put : (ts : List Table) (xs : List Step) (s : Step) → AreStepsPutOf ts (xs ++ s ∷ []) → ArePutOf ts s.applied
last_put ts [] s h = h.0
last_put ts (x ∷ xs) s h = last_put ts xs s h.1

-- ---- where the last chain begins, and how many steps it has, after one more

anew : (xs cs : List Step) (s : Step) → last_chain xs ≡ cs → (start_of_steps (chain_with cs s) ≡ s.prev) × (length (chain_with cs s) ≡ 1)
    → (s.prev ≡ start_of_steps (last_chain (xs ++ s ∷ []))) × (1 ≡ length (last_chain (xs ++ s ∷ [])))
anew xs cs s is e =
    let next : last_chain (xs ++ s ∷ []) ≡ chain_with cs s = last_push xs s ∙ ap (λ (l : List Step). chain_with l s) is in
    (sym (ap start_of_steps next ∙ e.0), sym (ap length next ∙ e.1))

some_steps : (c : Step) (cs : List Step) → (length (c ∷ cs) == 0) ≡ false
some_steps c cs = ne_eqb (length (c ∷ cs)) 0 (λ e. absurd (omega (arith, e)))

second_true : (a b : Bool) → a ≡ false → (a || b) ≡ true → b ≡ true
second_true false b n e = e
second_true true b n e = absurd (true_false n)

second_false : (a b : Bool) → (a || b) ≡ false → b ≡ false
second_false false b e = e
second_false true b e = absurd (true_false e)

pub begun : (xs : List Step) (s : Step) → ((length (last_chain xs) == 0) || begins_anew (last_chain xs) s) ≡ true
    → (s.prev ≡ start_of_steps (last_chain (xs ++ s ∷ []))) × (1 ≡ length (last_chain (xs ++ s ∷ [])))
begun xs s e = by (last_chain xs) refl e
  where
    by : (cs : List Step) → last_chain xs ≡ cs → ((length cs == 0) || begins_anew cs s) ≡ true → (s.prev ≡ start_of_steps (last_chain (xs ++ s ∷ []))) × (1 ≡ length (last_chain (xs ++ s ∷ [])))
    by [] is e = anew xs [] s is (none_start [] s refl)
    by (c ∷ cs) is e = anew xs (c ∷ cs) s is (begun_start (c ∷ cs) s (second_true (length (c ∷ cs) == 0) (begins_anew (c ∷ cs) s) (some_steps c cs) e))

pub gone_on : (xs : List Step) (s : Step) → ((length (last_chain xs) == 0) || begins_anew (last_chain xs) s) ≡ false
    → (start_of_steps (last_chain xs) ≡ start_of_steps (last_chain (xs ++ s ∷ []))) × (length (last_chain xs) + 1 ≡ length (last_chain (xs ++ s ∷ [])))
gone_on xs s e = by (last_chain xs) refl e
  where
    by : (cs : List Step) → last_chain xs ≡ cs → ((length cs == 0) || begins_anew cs s) ≡ false → (start_of_steps (last_chain xs) ≡ start_of_steps (last_chain (xs ++ s ∷ []))) × (length (last_chain xs) + 1 ≡ length (last_chain (xs ++ s ∷ [])))
    by [] is e = absurd (true_false e)
    by (c ∷ cs) is e =
        let more = more_start (c ∷ cs) s (second_false (length (c ∷ cs) == 0) (begins_anew (c ∷ cs) s) e) (omega arith) in
        let next : last_chain (xs ++ s ∷ []) ≡ chain_with (c ∷ cs) s = last_push xs s ∙ ap (λ (l : List Step). chain_with l s) is in
        (ap start_of_steps is ∙ sym (ap start_of_steps next ∙ more.0), ap (λ (l : List Step). length l + 1) is ∙ sym (ap length next ∙ more.1))

-- ---- what a session may be shown

all_behind : (P : Step → Type 0) (xs ys : List Step) → AllByRecursion P (xs ++ ys) → AllByRecursion P ys
all_behind P [] ys h = h
all_behind P (x ∷ xs) ys h = all_behind P xs ys h.1

-- the steps of the last chain are of the tables too
pub last_of_tables : (schema : SchemaValue) (ss : List Step) → IsNodeChain schema ss → AreStepsOf schema.description.tables (last_chain ss)
last_of_tables schema ss is =
    let l = is_last ss in
    all_behind _ l.0 (last_chain ss) (subst (λ (xs : List Step). AreStepsOf schema.description.tables xs) (sym l.1) is.of_tables)

pub session_shown : (schema : SchemaValue) (last now : List Step) (session : SessionValue) → GoesOn schema last now → MayBeShown session (folded_by schema last) → MayBeShown session (folded_by schema now)
session_shown schema last now session goes may =
    later_shown (folded_by schema last) (folded_by schema now) session refl (onward last now goes.begins) (last_of_tables schema now goes.chain) may
