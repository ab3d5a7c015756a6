use Rattle.std.proofs.Common.{List, [], ◌∷◌, ◌++◌, sym, subst}
use Rattle.ovs_recorded_source.specs.Steps.{AreSteps}
use Rattle.ovs_recorded_source.specs.declared.step.SourceStep.{SourceStep}
use Rattle.ovs_recorded_source.proofs.recorder.record_entry.Goals as goal

pub try_record-requires : goal.try_record-requires
try_record-requires g c = record {
  holds = subst (λ (made : List SourceStep). AreSteps g.N.SourceName.start (made ++ g.M.EntryFrom.entry c.args.about.now ∷ [])) (sym c.loop.invariant.0) c.requires.holds;
}
