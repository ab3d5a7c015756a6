-- That a source's desk with its history may go to other threads, by its parts.
use denote.RattleType.{RattleType}
use denote.Param.Send.{IsSend, sendable, view_send}
use denote.Param.SendFields.{as_row_send, declared_send, variants_send}
use Rattle.std.proofs.Crossing as heap
use Rattle.ovs_sync.proofs.history.book.Book.TheSendSync as book
use Rattle.ovs_sync.proofs.history.prefix.Prefix.TheSendSync as front
use Rattle.ovs_links.specs.contracts.link.Link as link
use Rattle.ovs_locks.specs.contracts.lock_table.LockTable as lock_table
use Rattle.ovs_source.specs.contracts.fresh_rows.FreshRows as fresh_rows
use Rattle.ovs_source.specs.contracts.source.Source as source
use Rattle.ovs_source.specs.contracts.source_desk.SourceDesk as source_desk
use Rattle.ovs_source.specs.contracts.source_desk.SourceDesk.TheInside as source_desk_inside
use Rattle.ovs_recorded_source.specs.contracts.holding_desk.HoldingDesk as holding_desk
use Rattle.ovs_recorded_source.specs.contracts.holding_desk.HoldingDesk.TheInside as holding_desk_inside
use Rattle.ovs_recorded_source.specs.contracts.recorded_source.RecordedSource as recorded_source
use Rattle.ovs_recorded_source.specs.contracts.recorded_source.RecordedSource.TheInside as recorded_source_inside
use Rattle.ovs_recorded_source.specs.contracts.taken_links.TakenLinks as taken_links
use Rattle.ovs_recorded_source.specs.contracts.taken_links.TakenLinks.TheInside as taken_links_inside
use Rattle.ovs_recorded_source.specs.contracts.waiting.WaitingReplies as waiting_replies
use Rattle.ovs_recorded_source.specs.declared.name.SourceName.{Ghosts}

pub source_desk_sends : IsSend source.the_row → IsSend lock_table.the_row → IsSend fresh_rows.the_row → IsSend link.the_row → IsSend source_desk.the_row
source_desk_sends source locks fresh link =
    view_send _ _ _ _ _ (declared_send source_desk_inside.the_type (source, (locks, (fresh, (search (variants_send, sendable, as_row_send) depth 20, (search (link, heap.crosses) depth 20, (search (variants_send, declared_send, sendable, as_row_send) depth 20, tt)))))))

pub holding_desk_sends : IsSend source_desk.the_row → IsSend waiting_replies.the_row → IsSend holding_desk.the_row
holding_desk_sends desk waiting = view_send _ _ _ _ _ (declared_send holding_desk_inside.the_type (desk, (waiting, tt)))

pub recorded_source_sends : (N : RattleType) (name : Ghosts N.Denot) → IsSend holding_desk.the_row → IsSend (recorded_source.the_row N name)
recorded_source_sends N name desk = view_send _ _ _ _ _ (inside_sends desk)
  where
    inside_sends : IsSend holding_desk.the_row → IsSend (recorded_source_inside.the_row N name)
    inside_sends desk = declared_send (recorded_source_inside.the_type N name)
        (desk, (search (book.the_send, sendable, heap.crosses) depth 20, (search (front.the_send, sendable, heap.crosses, as_row_send) depth 20, (search (sendable, as_row_send) depth 20, tt))))

pub taken_links_send : (N : RattleType) (name : Ghosts N.Denot) → IsSend (taken_links.the_row N name)
taken_links_send N name = view_send _ _ _ _ _ inside_sends
  where
    inside_sends : IsSend (taken_links_inside.the_row N name)
    inside_sends = declared_send (taken_links_inside.the_type N name)
        (search (front.the_send, sendable, heap.crosses, as_row_send) depth 20, (search (sendable, as_row_send) depth 20, tt))
