use Rattle.std.proofs.Common.{◌≡◌, ◌++◌, take, drop}
use Rattle.ovs_lock_desk.specs.PendingSteal.{settled}
use Rattle.ovs_lock_desk.proofs.pending_steal.settle.Given as goal

abbrev pub invariant-loop-one : goal.invariant-loop-one
invariant-loop-one l = l.late ≡ settled l.outcome (take l.one-index l.fn.late) ++ drop l.one-index l.fn.late
