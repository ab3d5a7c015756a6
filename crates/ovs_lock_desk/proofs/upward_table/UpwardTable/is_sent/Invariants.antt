use Rattle.std.proofs.Common.{◌≡◌, Bool}
use Rattle.std.specs.Prelude.{is_some, slice_get}
use Rattle.ovs_locks.specs.ByName.{gathered}
use Rattle.ovs_lock_desk.specs.LockDesk.{relay_lock_at, is_sent_at}
use Rattle.ovs_lock_desk.proofs.Requests.{open_under}
use Rattle.ovs_lock_desk.proofs.upward_table.UpwardTable.is_sent.Given as goal

abbrev pub invariant-loop-name : goal.invariant-loop-name
invariant-loop-name l = is_some (slice_get (gathered (λ name (b : Bool). open_under l.number name (relay_lock_at name l.self)) l.name-iterator) 0) ≡ is_sent_at l.number l.self
