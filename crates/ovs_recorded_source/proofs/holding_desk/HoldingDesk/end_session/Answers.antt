use Rattle.std.proofs.Common.{subst}
use Rattle.ovs_recorded_source.specs.Steps.{SourceState, Ends}
use Rattle.ovs_recorded_source.specs.Waiting.{listed}
use Rattle.ovs_recorded_source.proofs.holding_desk.HoldingDesk.end_session.Goals as goal

pub returns : goal.returns
returns c = record {
  ended =
      let e : SourceState = record { desk = c.end_session-2.new.self; waiting = listed c.end_session.new.self.by_session.entries } in
      subst (λ (s : SourceState). Ends c.args.session s e) c.self.view_is
      (record { none = c.end_session.ensures.none; locks = c.end_session-2.ensures.locks; source = c.end_session-2.ensures.source });
}
