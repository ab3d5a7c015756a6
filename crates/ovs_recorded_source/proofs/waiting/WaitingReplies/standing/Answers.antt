use Rattle.std.proofs.Common.{◌∙◌}
use Rattle.ovs_recorded_source.specs.Waiting.{listed}
use Rattle.ovs_recorded_source.proofs.Listing.{none_at, none_stands, first_stands}
use Rattle.ovs_recorded_source.proofs.waiting.WaitingReplies.standing.Goals as goal

pub returns-in_err-get : goal.returns-in_err-get
returns-in_err-get c = record {
  value = c.from_residual.ensures ∙ none_stands c.args.session (listed c.args.self.now.by_session.entries) (none_at c.args.session c.args.self.now.by_session c.is_empty.ensures.ordered c.in_err-get.ensures.value);
}

pub returns : goal.returns
returns c = record {
  value = c.first_standing.ensures.value ∙ first_stands c.args.session c.args.self.now.by_session c.in_ok-get.field-0.now c.is_empty.ensures.ordered c.in_ok-get.ensures.value;
}
