-- That a relay's desk with its history may go to other threads, by its parts.
use denote.RattleType.{RattleType}
use denote.Param.Send.{IsSend, sendable, view_send}
use denote.Param.SendFields.{as_row_send, declared_send}
use Rattle.std.proofs.Crossing as heap
use Rattle.ovs_desk.specs.contracts.relay_desk.RelayDesk as relay_desk
use Rattle.ovs_sync.proofs.history.book.Book.TheSendSync as book
use Rattle.ovs_sync.proofs.history.prefix.Prefix.TheSendSync as front
use Rattle.ovs_recorded_desk.specs.contracts.recorded_desk.RecordedDesk as recorded_desk
use Rattle.ovs_recorded_desk.specs.contracts.recorded_desk.RecordedDesk.TheInside as inside
use Rattle.ovs_recorded_desk.specs.declared.name.DeskName.{Ghosts}

pub recorded_desk_sends : (N : RattleType) (name : Ghosts N.Denot) → IsSend relay_desk.the_row → IsSend (recorded_desk.the_row N name)
recorded_desk_sends N name desk = view_send _ _ _ _ _ (inside_sends desk)
  where
    inside_sends : IsSend relay_desk.the_row → IsSend (inside.the_row N name)
    inside_sends desk = declared_send (inside.the_type N name)
        (search (desk, sendable, as_row_send) depth 20, (search (book.the_send, sendable, heap.crosses) depth 20, (search (front.the_send, sendable, heap.crosses, as_row_send) depth 20, tt)))
