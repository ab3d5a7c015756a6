-- Lists of steps.
use Rattle.std.proofs.Common.{ℕ, List, [], ◌∷◌, ◌++◌, refl, sym, ap, subst}
use mathlib.Core.List.{IsPrefix}
use Rattle.ovs_desk.specs.RelayDesk.{RelayValue}
use Rattle.ovs_recorded_desk.specs.declared.step.DeskStep.{DeskStep}
use Rattle.ovs_desk.specs.RelayDesk.{new_desk}
use Rattle.ovs_recorded_desk.specs.Steps.{Does, DoesAll, RecordedValue, IsStep, EndsRun, EndsWith}

-- one step more
pub does_last : (d e f : RelayValue) (made : List DeskStep) (s : DeskStep) → DoesAll d made e → Does s e f → DoesAll d (made ++ s ∷ []) f
does_last d e f [] s all does = (f, subst (λ x. Does s x f) all does, refl)
does_last d e f (t ∷ made) s all does = (all.0, all.1, does_last all.0 e f made s all.2 does)

-- a step behind all others stands behind a beginning of these
pub ends : (s : DeskStep) (known front : List DeskStep) → IsPrefix known front → EndsWith s known (front ++ s ∷ [])
ends s known front p = record { others = p.0; all = ap (λ x. x ++ s ∷ []) (sym p.1) }

-- a step is the last of the run that it is made in
pub ends_run : (database : List ℕ) (s : DeskStep) (before after : RecordedValue) → IsStep database s before after → EndsRun database s
ends_run database s before after is = record {
  earlier = before.steps;
  run = (after.desk, does_last (new_desk database) before.desk after.desk before.steps s is.made is.does);
}
