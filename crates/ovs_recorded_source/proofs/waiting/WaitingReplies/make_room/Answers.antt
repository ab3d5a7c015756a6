use Rattle.std.proofs.lemmas.Result.{on_ok_weaker}
use Rattle.ovs_recorded_source.proofs.Listing.{same_items, room_for_more, room_put}
use Rattle.ovs_recorded_source.proofs.waiting.WaitingReplies.make_room.Goals as goal

pub returns-in-Some-clause-same : goal.returns-in-Some-clause-same
returns-in-Some-clause-same c =
    same_items c.args.session c.args.self.now.by_session (c.get_mut.follows.lender c.reserve_one.new.replies) c.in-Some.replies.now c.reserve_one.new.replies c.in-Some.ensures.value (c.get_mut.follows.holds c.reserve_one.new.replies) c.reserve_one.ensures.items

pub returns-in-Some-clause-room : goal.returns-in-Some-clause-room
returns-in-Some-clause-room c =
    on_ok_weaker c.reserve_one.result (λ room. room_for_more c.args.session c.args.self.now.by_session (c.get_mut.follows.lender c.reserve_one.new.replies) c.in-Some.replies.now c.reserve_one.new.replies c.in-Some.ensures.value (c.get_mut.follows.holds c.reserve_one.new.replies) room) c.reserve_one.ensures.room

pub returns-clause-same : goal.returns-clause-same
returns-clause-same c =
    room_put c.args.session c.args.self.now.by_session c.get_mut.follows.lender-at-none c.insert.new.self c.in_ok-room_for_one.field-0 c.get_mut.follows.holds-at-none c.in_default.ensures.value c.in_ok-room_for_one.ensures.none c.in_ok-insert.ensures.entries
