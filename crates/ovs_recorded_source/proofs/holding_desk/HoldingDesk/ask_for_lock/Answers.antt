use Rattle.std.proofs.Common.{refl, sym, subst}
use Rattle.ovs_authority.specs.Answers.{reply_of}
use Rattle.ovs_authority.specs.declared.response.Response.{Response}
use Rattle.ovs_recorded_source.specs.Steps.{SourceState, Asks, link_behind}
use Rattle.ovs_recorded_source.specs.Waiting.{listed}
use Rattle.ovs_recorded_source.proofs.Holding.{asked, none_waits_for}
use Rattle.ovs_recorded_source.proofs.holding_desk.HoldingDesk.ask_for_lock.Goals as goal

pub returns-clause-asked : goal.returns-clause-asked
returns-clause-asked c =
    let d : SourceState = record { desk = c.self.inside.desk; waiting = listed c.self.inside.waiting.by_session.entries } in
    let e : SourceState = record { desk = c.answer_of.new.desk; waiting = listed c.self.inside.waiting.by_session.entries } in
    let a : Response = c.in_ok-answer.answer in
    let is = asked c.args.session c.args.ask a d e c.in_ok-answer.ensures.answer (none_waits_for c.args.session c.args.ask.id c.args.ask.verb a d e c.requires.no_transaction refl) in
    subst (λ (s : SourceState). Asks c.args.session c.args.ask s (reply_of c.of-said.result.value c.args.ask.id) (link_behind s.desk.unpublished e.desk.unpublished) e) c.self.view_is
    (subst (λ (x : Response). Asks c.args.session c.args.ask d (reply_of x c.args.ask.id) (link_behind d.desk.unpublished e.desk.unpublished) e) (sym c.of-said.ensures) is)
