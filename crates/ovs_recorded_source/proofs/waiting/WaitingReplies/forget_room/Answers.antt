use Rattle.std.proofs.Common.{ap, sym, ◌∙◌}
use Rattle.std.specs.BTreeMap.{is_at}
use Rattle.std.specs.Ordering.{nat_cmp}
use Rattle.ovs_recorded_source.specs.Waiting.{listed}
use Rattle.ovs_recorded_source.proofs.Listing.{listed_without_room}
use Rattle.ovs_recorded_source.proofs.waiting.WaitingReplies.forget_room.Goals as goal

pub returns-in-Some : goal.returns-in-Some
returns-in-Some c = record {
  same = ap listed c.remove-none.ensures.entries ∙ listed_without_room (is_at (nat_cmp c.args.session)) c.in-Some.replies.now (c.is_none_left.ensures.none c.if-is_none_left.true) c.args.self.now.by_session.entries (sym c.in-Some.ensures.value);
}
