use Rattle.std.proofs.Common.{List, ap, subst, sym, ◌∙◌}
use Rattle.ovs_recorded_source.specs.Steps.{begun}
use Rattle.ovs_recorded_source.specs.Taking.{IsRecord, links_taken}
use Rattle.ovs_recorded_source.specs.declared.step.SourceStep.{SourceStep}
use Rattle.ovs_recorded_source.proofs.Recording.{does_last}
use Rattle.ovs_recorded_source.proofs.Taking.{recorded, taken_more}
use Rattle.ovs_recorded_source.proofs.recorder.record_step.Goals as goal

pub record_entry-requires : goal.record_entry-requires
record_entry-requires g c = record {
  holds = (c.args.desk.now, does_last (begun g.N.SourceName.start) c.args.before.now.value c.args.desk.now c.args.front.now (g.M.EntryFrom.entry c.args.about.now) c.requires.made.run c.requires.does);
}

pub returns-clause-made : goal.returns-clause-made
returns-clause-made g c =
    subst (λ (made : List SourceStep). IsRecord g.N.SourceName.start made c.args.desk.now) (sym c.record_entry.ensures.added)
    (recorded g.N.SourceName.start c.args.front.now (g.M.EntryFrom.entry c.args.about.now) c.args.before.now.value c.args.desk.now c.requires.made c.requires.does c.requires.keeps)

pub returns-clause-taken : goal.returns-clause-taken
returns-clause-taken g c = ap links_taken c.record_entry.ensures.added ∙ taken_more c.args.front.now (g.M.EntryFrom.entry c.args.about.now)
