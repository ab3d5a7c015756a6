-- Which locks a session owns.
use Rattle.std.specs.Prelude.{ℕ, List, Bool, Some, nat_eq}
use Rattle.std.specs.Option.{option_eq}
use Rattle.ovs_locks.specs.Lock.{owner}
use Rattle.ovs_locks.specs.LockTable.{Locks, lock_at}

-- whether it is the owner of the lock of this name
abbrev pub owns : ℕ → Locks → List ℕ → Bool
owns session locks name = option_eq nat_eq (owner (lock_at name locks)) (Some session)
