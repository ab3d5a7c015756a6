use Rattle.std.proofs.Common.{Option, ap, ◌∙◌}
use Rattle.ovs_links.specs.declared.link.Link.{Link}
use Rattle.ovs_recorded_source.specs.Steps.{SourceState, RecordedValue, link_behind}
use Rattle.ovs_recorded_source.proofs.Recording.{asked_step}
use Rattle.ovs_recorded_source.proofs.recorded_source.RecordedSource.ask.Goals as goal

pub returns-clause-asked : goal.returns-clause-asked
returns-clause-asked g c =
    let at : SourceState → RecordedValue = λ s. record { steps = c.self.inside.front; state = s } in
    let after : RecordedValue = record { steps = c.record_step.new.front; state = c.ask.new.self } in
    let link : Option Link = link_behind c.of-before.result.value.desk.unpublished c.of.result.value.desk.unpublished in
    asked_step g.N.SourceName.start c.args.session c.args.ask c.of-asked.result.value c.in_ok-immediate_reply.field-0.answer.value link c.in_ok-immediate_reply.field-0.immediate_reply c.args.self.now (at c.of-before.result.value) after
    c.of-asked.ensures (ap at c.of-before.ensures ∙ c.self.view_is) c.in_ok-immediate_reply.ensures.immediate_reply c.record_step.ensures.step
