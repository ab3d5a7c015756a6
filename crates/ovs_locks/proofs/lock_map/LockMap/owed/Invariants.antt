use Rattle.std.proofs.Common.{◌≡◌, ◌++◌}
use Rattle.ovs_locks.specs.LockTable.{owed_to}
use Rattle.ovs_locks.proofs.lock_map.LockMap.owed.Given as goal

abbrev pub invariant-loop-name : goal.invariant-loop-name
invariant-loop-name l = l.notices.items ++ owed_to l.session l.name-iterator ≡ owed_to l.session l.self
