use Rattle.std.proofs.Common.{ap, sym}
use Rattle.ovs_wire.proofs.Cuts.{nothing}
use Rattle.ovs_session.specs.Moving.{fault_in}
use Rattle.ovs_session.proofs.Room.{new_room}
use Rattle.ovs_session.proofs.inbox.Inbox.new.Goals as goal

pub invariant_of-result : goal.invariant_of-result
invariant_of-result c =
    let is_new = c.with_limit.ensures.is_new in
    (sym (ap fault_in is_new.1), new_room _ is_new.0 is_new.1 nothing)
