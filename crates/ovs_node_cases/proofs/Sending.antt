-- That a handle with a log may go to a thread, where both its parts may.
use denote.RattleType.{RattleType}
use denote.Param.Send.{IsSend, sendable}
use denote.Param.SendFields.{as_row_send, declared_send}
use Rattle.std.proofs.Crossing as heap
use Rattle.log.specs.contracts.handle.Handle as handle
use Rattle.log.specs.contracts.handle.Root as root

pub logged_sends : (R : RattleType) → IsSend R → IsSend (handle.the_row R (root.the_row R))
logged_sends R rt = search (rt, sendable, heap.crosses, as_row_send, declared_send) depth 30 fits 10000
