use Rattle.std.proofs.Common.{sym, subst, ap, ◌∙◌}
use Rattle.ovs_authority.specs.Answers.{reply_of}
use Rattle.ovs_authority.specs.declared.response.Response.{Response}
use Rattle.ovs_links.specs.Store.{head_of}
use Rattle.ovs_recorded_source.specs.Steps.{SourceState, Asks, link_behind}
use Rattle.ovs_recorded_source.specs.Waiting.{listed}
use Rattle.ovs_recorded_source.proofs.Holding.{asked, put_so, waits_behind}
use Rattle.ovs_recorded_source.proofs.holding_desk.HoldingDesk.transact.Goals as goal

pub returns-in-Ok-clause-asked : goal.returns-in-Ok-clause-asked
returns-in-Ok-clause-asked c =
    let d : SourceState = record { desk = c.self.inside.desk; waiting = listed c.self.inside.waiting.by_session.entries } in
    let e : SourceState = record { desk = c.answer_of.new.desk; waiting = listed c.put.new.self.by_session.entries } in
    let a : Response = c.in-Ok.answer in
    let head = c.head.ensures.value ∙ ap head_of (c.store.ensures.value ∙ c.source.ensures.value) in
    let put = put_so c.args.session d.waiting (listed c.make_room.new.self.by_session.entries) e.waiting a c.in-Ok.id c.args.ask.id c.head.result (head_of e.desk.source) c.make_room.ensures.same c.in-Ok.ensures.id head c.put.ensures.put in
    let is = asked c.args.session c.args.ask a d e c.in-Ok.ensures.answer (waits_behind c.args.session c.args.ask.id c.args.ask.verb a d e c.requires.transaction put) in
    subst (λ (s : SourceState). Asks c.args.session c.args.ask s (reply_of c.of-said.result.value c.args.ask.id) (link_behind s.desk.unpublished e.desk.unpublished) e) c.self.view_is
    (subst (λ (x : Response). Asks c.args.session c.args.ask d (reply_of x c.args.ask.id) (link_behind d.desk.unpublished e.desk.unpublished) e) (sym c.of-said.ensures) is)
