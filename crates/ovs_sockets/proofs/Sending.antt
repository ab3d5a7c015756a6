-- That the poller of a worker may go to its thread, by their parts.
use denote.RattleType.{RattleType}
use denote.Param.Send.{IsSend, sendable, view_send}
use denote.Param.SendFields.{as_row_send, as_row_sync, declared_send, declared_sync, variants_send, variants_sync}
use Rattle.std.proofs.Crossing as heap
use Rattle.ovs_worker.specs.contracts.connections.Connections as connections
use Rattle.ovs_worker.specs.contracts.connections.Connections.TheInside as inside
use Rattle.ovs_sockets.specs.contracts.client.Half as half
use Rattle.ovs_sockets.specs.contracts.poller.SocketPoller as socket_poller

connections_send : (I O : RattleType) → IsSend I → IsSend O → IsSend (connections.the_row I O)
connections_send I O i o = view_send _ _ _ _ _ (inside_sends i o)
  where
    inside_sends : IsSend I → IsSend O → IsSend (inside.the_row I O)
    inside_sends i o = search (i, o, sendable, heap.crosses, as_row_send, declared_send) depth 30 fits 10000

half_sends : IsSend half.the_row
half_sends = search (sendable, heap.crosses, as_row_send, as_row_sync, declared_send, declared_sync, variants_send, variants_sync) depth 30 fits 10000

pub socket_pollers_send : (R : RattleType) → IsSend R → IsSend (socket_poller.the_row R)
socket_pollers_send R rt =
    let noted = connections_send half.the_row half.the_row half_sends half_sends in
    declared_send (socket_poller.the_type R) (search (rt, sendable, as_row_send) depth 20, (search (sendable, heap.crosses, as_row_send, as_row_sync, declared_send, declared_sync) depth 20, (search (sendable, heap.crosses, as_row_send, as_row_sync, declared_send, declared_sync) depth 20, (search (sendable, heap.crosses, as_row_send, as_row_sync, declared_send, declared_sync) depth 20, (search (sendable, heap.crosses, as_row_send, as_row_sync, declared_send, declared_sync) depth 20, (search (sendable, heap.crosses, as_row_send, as_row_sync, declared_send, declared_sync) depth 20, (search (sendable, heap.crosses, as_row_send, as_row_sync, declared_send, declared_sync) depth 20, (search (sendable, heap.crosses, as_row_send, as_row_sync, declared_send, declared_sync) depth 20, (search (sendable, heap.crosses, as_row_send, as_row_sync, declared_send, declared_sync) depth 20, (search (sendable, heap.crosses, as_row_send, as_row_sync, declared_send, declared_sync) depth 20, (search (sendable, heap.crosses, as_row_send, as_row_sync, declared_send, declared_sync) depth 20, (search (sendable, heap.crosses, as_row_send, as_row_sync, declared_send, declared_sync) depth 20, (search (sendable, heap.crosses, as_row_send, as_row_sync, declared_send, declared_sync) depth 20, (search (sendable, heap.crosses, as_row_send, as_row_sync, declared_send, declared_sync) depth 20, (search (sendable, heap.crosses, as_row_send, as_row_sync, declared_send, declared_sync) depth 20, (noted, tt))))))))))))))))
