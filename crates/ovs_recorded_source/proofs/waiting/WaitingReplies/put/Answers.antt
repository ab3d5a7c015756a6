use Rattle.ovs_recorded_source.proofs.Listing.{one_put}
use Rattle.ovs_recorded_source.proofs.waiting.WaitingReplies.put.Goals as goal

pub returns-in-Some : goal.returns-in-Some
returns-in-Some c = record {
  put = one_put c.args.session c.args.self.now.by_session (c.get_mut.follows.lender c.push_back_reserved.new.self) c.in-Some.replies.now c.push_back_reserved.new.self c.in-Some.ensures.value (c.get_mut.follows.holds c.push_back_reserved.new.self) c.args.reply c.get_mut.ensures.ordered c.push_back_reserved.ensures.items;
}
