-- What a caller of a source's desk comes to know.
use Rattle.std.specs.Prelude.{◌≡◌, ◌++◌, List, ◌∷◌}
use Rattle.ovs_recorded_source.specs.declared.step.SourceStep.{SourceStep}

-- the step stands among those that were learnt
pub record Learns (step : SourceStep) (known now : List SourceStep) : Type 0 where
  pub earlier : List SourceStep
  pub later : List SourceStep
  pub all : now ≡ (known ++ earlier) ++ step ∷ later
