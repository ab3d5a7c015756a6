-- What a store has folded may be shown.
use Rattle.std.proofs.Common.{◌≡◌, ◌<◌, ◌≤◌, ◌⊎◌, ⊎_elim, inl, inr, ℕ, zero, suc, List, [], ◌∷◌, Option, Some, None, true, length, take, refl, sym, ap, subst, ◌∙◌, arith}
use Rattle.std.proofs.lemmas.Bool.{cases_lt, lt-ltb, ltb-true}
use Rattle.ovs_types.specs.declared.schema.Schema.{Schema}
use Rattle.ovs_types.specs.declared.schema.Table.{Table}
use Rattle.ovs_rows.specs.Row.{Rows, no_rows, AreRowsOf}
use Rattle.ovs_rows.specs.After.{after}
use Rattle.ovs_rows.proofs.Laws.{no_rows_of, rows_after as rows_after_of}
use Rattle.ovs_query.proofs.Beginnings.{applied_rows}
use Rattle.ovs_links.specs.Chains.{GrowsInto, IsPrefixOf, rows_after, start_of}
use Rattle.ovs_links.specs.Sets.{AllOf, Holds, IsOfTables}
use Rattle.ovs_links.specs.Steps.{FoldedValue, steps_of, folded_of, tables_in}
use Rattle.ovs_links.specs.StepChains.{head_after_steps, start_at, start_of_steps}
use Rattle.ovs_links.specs.Absorbing.{StepsGoOn}
use Rattle.ovs_links.specs.declared.step.Step.{Step}
use Rattle.ovs_links.specs.Store.{Stored, IsStore, tables_of}
use Rattle.ovs_links.specs.declared.link.Link.{Link}
use Rattle.ovs_links.proofs.ChainLemmas.{AllOf-weaker}
use Rattle.ovs_links.proofs.AbsorbingLemmas.{start_up}
use Rattle.ovs_links.proofs.GrowLemmas.{shown_more, steps_append}
use Rattle.ovs_links.proofs.StepLemmas.{start_steps}
use Rattle.ovs_reader.specs.Session.{SessionValue, new_session, AreMonitorsOf, AreStepsOf, GoesOn, MayBeShown, is_over}

steps_of_tables : (ts : List Table) (rows : Rows) (ls : List Link) → AreRowsOf ts rows → AllOf (IsOfTables ts) ls → AreStepsOf ts (steps_of ts rows ls)
steps_of_tables ts rows [] h k = tt
steps_of_tables ts rows (l ∷ ls) h k =
    (applied_rows ts rows l.change l.id h k.0, steps_of_tables ts (after ts rows l.change l.id) ls (rows_after_of ts rows l.change l.id h k.0) k.1)

folded_steps : (s : Stored) → IsStore s → AreStepsOf (tables_of s) (steps_of (tables_of s) no_rows s.folded)
folded_steps s is =
    steps_of_tables (tables_of s) no_rows s.folded (no_rows_of (tables_of s))
    (AllOf-weaker (Holds s.links) (IsOfTables (tables_of s)) is.changes s.folded is.chain.members)

pub first_shown : (s : Stored) → IsStore s → MayBeShown new_session (folded_of s.schema s.folded)
first_shown s is = record { extends = tt; monitors = tt; steps = folded_steps s is }

-- what goes on from steps goes on from all that was shown of them
abbrev Extend : List Step → ℕ → ℕ → Type 0
Extend ss shown head = (shown ≤ length ss) × (head_after_steps (start_of_steps ss) (take shown ss) ≡ head)

abbrev GoOn : List Step → Option ℕ → ℕ → ℕ → Type 0
GoOn ss None shown head = Unit {0}
GoOn ss (Some start) shown head = ((start_of_steps ss ≡ start) × Extend ss shown head) ⊎ (start < start_of_steps ss)

from_none : (ys : List Step) (start shown head : ℕ) → 0 ≡ start → shown ≤ 0 → 0 ≡ head → GoOn ys (Some start) shown head
from_none ys start shown head e le h =
    ⊎_elim (λ (lt : 0 < start_of_steps ys). inr (omega (arith, lt, e)))
    (λ (z : start_of_steps ys ≤ 0).
    let none : shown ≡ 0 = omega (arith, le) in
    inl (omega (arith, z, e), (omega (arith, none), ap (λ (n : ℕ). head_after_steps (start_of_steps ys) (take n ys)) none ∙ omega (arith, z, h))))
    (cases_lt 0 (start_of_steps ys))

shown_on : (o : Option ℕ) (xs ys : List Step) (shown head : ℕ) → GoOn xs o shown head → StepsGoOn xs ys → GoOn ys o shown head
shown_on None xs ys shown head on goes = tt
shown_on (Some start) xs ys shown head (inr lt) (inl p) = inr (let up = start_up xs p.0 ys p.1 in omega (arith, up, lt))
shown_on (Some start) xs ys shown head (inr lt) (inr past) = inr (omega (arith, lt, past))
shown_on (Some start) xs ys shown head (inl on) (inr past) = inr (omega (arith, on.0, past))
shown_on (Some start) [] ys shown head (inl (e, (le, h))) (inl p) =
    let none : shown ≡ 0 = omega (arith, le) in
    let first : (n : ℕ) → n ≡ 0 → head_after_steps 0 (take n []) ≡ 0 = λ n z. nothing n in
    from_none ys start shown head e le (sym (first shown none) ∙ h)
  where
    nothing : (n : ℕ) → head_after_steps 0 (take n []) ≡ 0
    nothing zero = refl
    nothing (suc n) = refl
shown_on (Some start) (x ∷ xs) ys shown head (inl (e, (le, h))) (inl p) =
    subst (λ (ss : List Step). GoOn ss (Some start) shown head) p.1 (inl (e, shown_more x.prev shown head (x ∷ xs) p.0 (le, h)))

on_steps : (f : FoldedValue) (o : Option ℕ) (shown head : ℕ) → GoesOn f o shown head → GoOn f.steps o shown head
on_steps f None shown head on = on
on_steps f (Some start) shown head on = on

of_steps : (f : FoldedValue) (o : Option ℕ) (shown head : ℕ) → GoOn f.steps o shown head → GoesOn f o shown head
of_steps f None shown head on = on
of_steps f (Some start) shown head on = on

-- what goes on from what may be shown may be shown
pub later_shown : (f g : FoldedValue) (session : SessionValue) → g.database.schema ≡ f.database.schema → StepsGoOn f.steps g.steps → AreStepsOf (tables_in g) g.steps → MayBeShown session f → MayBeShown session g
later_shown f g session same goes steps shown =
    record {
      extends = of_steps g session.start session.shown session.head
          (shown_on session.start f.steps g.steps session.shown session.head (on_steps f session.start session.shown session.head shown.extends) goes);
      monitors = subst (λ (s : Schema). AreMonitorsOf s.description.tables session.monitors) (sym same) shown.monitors;
      steps = steps;
    }

pub grown_steps : (ts : List Table) (xs ys : List Link) → GrowsInto xs ys → StepsGoOn (steps_of ts no_rows xs) (steps_of ts no_rows ys)
grown_steps ts xs ys grows =
    ⊎_elim (λ (p : IsPrefixOf xs ys). inl (steps_of ts (rows_after ts no_rows xs) p.0, sym (steps_append ts no_rows xs p.0) ∙ ap (λ (ls : List Link). steps_of ts no_rows ls) p.1))
    (λ (lt : start_of xs < start_of ys). inr (omega (arith, lt, start_steps ts no_rows xs, start_steps ts no_rows ys))) grows.goes_on

pub more_shown : (s t : Stored) (session : SessionValue) → IsStore t → t.schema ≡ s.schema → GrowsInto s.folded t.folded
    → MayBeShown session (folded_of s.schema s.folded) → MayBeShown session (folded_of t.schema t.folded)
more_shown s t session is same grows shown =
    let here : MayBeShown session (folded_of t.schema s.folded) = subst (λ schema. MayBeShown session (folded_of schema s.folded)) (sym same) shown in
    later_shown (folded_of t.schema s.folded) (folded_of t.schema t.folded) session refl (grown_steps (tables_of t) s.folded t.folded grows) (folded_steps t is) here

pub over_later : (f g : FoldedValue) (start : Option ℕ) → StepsGoOn f.steps g.steps → is_over start f ≡ true → is_over start g ≡ true
over_later f g None goes e = e
over_later f g (Some start) goes e = lt-ltb start (start_at g) (by goes)
  where
    lt : start < start_at f
    lt = ltb-true start (start_at f) e

    by : StepsGoOn f.steps g.steps → start < start_at g
    by (inl p) = let up = start_up f.steps p.0 g.steps p.1 in omega (arith, up, lt)
    by (inr past) = omega (arith, lt, past)
