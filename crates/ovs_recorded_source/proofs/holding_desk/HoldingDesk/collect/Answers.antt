use Rattle.std.proofs.Common.{[], ◌≡◌, sym, subst}
use Rattle.std.specs.Prelude.{IfOk}
use Rattle.ovs_recorded_source.specs.Steps.{SourceState, Collects}
use Rattle.ovs_recorded_source.specs.Waiting.{listed, replies_at}
use Rattle.ovs_recorded_source.proofs.Holding.{collected}
use Rattle.ovs_recorded_source.proofs.holding_desk.HoldingDesk.collect.Goals as goal

pub returns-clause-collected : goal.returns-clause-collected
returns-clause-collected c =
    let d : SourceState = record { desk = c.self.inside.desk; waiting = listed c.self.inside.waiting.by_session.entries } in
    let e : SourceState = record { desk = c.collect.new.self; waiting = listed c.self.inside.waiting.by_session.entries } in
    let none = subst (λ (s : SourceState). replies_at c.args.session s.waiting ≡ []) (sym c.self.view_is) c.requires.none in
    subst (λ (s : SourceState). IfOk c.collect.result (λ m. Collects c.args.session s m e)) c.self.view_is
    (collected c.args.session d c.collect.new.self c.collect.result none c.collect.ensures.given c.collect.ensures.others c.collect.ensures.sessions c.collect.ensures.source)
