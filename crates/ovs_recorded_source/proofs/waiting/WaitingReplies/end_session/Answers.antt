use Rattle.std.proofs.Common.{[], None, refl}
use Rattle.ovs_recorded_source.proofs.Listing.{become}
use Rattle.ovs_recorded_source.proofs.waiting.WaitingReplies.end_session.Goals as goal

pub returns-then-not-is_empty : goal.returns-then-not-is_empty
returns-then-not-is_empty c = record {
  none = become c.args.session c.args.self.now.by_session c.remove-let_go.new.self None [] c.is_empty.ensures.ordered c.remove-let_go.ensures.ordered c.remove-let_go.ensures.updates refl;
}
