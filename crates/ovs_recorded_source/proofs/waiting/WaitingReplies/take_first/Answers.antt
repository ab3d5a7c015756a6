use Rattle.ovs_recorded_source.proofs.Listing.{one_taken, none_taken}
use Rattle.ovs_recorded_source.proofs.waiting.WaitingReplies.take_first.Goals as goal

pub returns : goal.returns
returns c = record {
  taken = one_taken c.args.session c.args.self.now.by_session (c.get_mut.follows.lender c.take_first-first.new.replies) c.in_ok-get_mut.field-0.now c.take_first-first.new.replies c.in_ok-get_mut.ensures.value (c.get_mut.follows.holds c.take_first-first.new.replies) c.take_first-first.result _ c.get_mut.ensures.ordered c.take_first-first.ensures.value c.forget_room.ensures.same;
}

pub returns-in_err-get_mut : goal.returns-in_err-get_mut
returns-in_err-get_mut c = record {
  taken = none_taken c.args.session c.args.self.now.by_session c.get_mut.follows.lender-at-none c.from_residual.result c.get_mut.ensures.ordered c.get_mut.follows.holds-at-none c.in_err-get_mut.ensures.value c.from_residual.ensures;
}
