use Rattle.std.proofs.Common.{◌≡◌, ◌+◌, ◌<◌, Bool, length}
use Rattle.ovs_locks.specs.ByName.{gathered}
use Rattle.ovs_lock_desk.specs.LockDesk.{relay_lock_at, locks_of}
use Rattle.ovs_lock_desk.proofs.Names.{stood}
use Rattle.ovs_lock_desk.proofs.lock_desk.LockDesk.is_full.Given as goal

abbrev pub invariant-loop-name : goal.invariant-loop-name
invariant-loop-name l =
    (length (locks_of l.session l.self.locks) + l.room ≡ 1024 + length (gathered (λ name (b : Bool). stood l.session name (relay_lock_at name l.self.locks)) l.name-iterator)) × (0 < l.room)
