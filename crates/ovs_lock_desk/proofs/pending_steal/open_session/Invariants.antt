use Rattle.std.proofs.Common.{◌≡◌, drop}
use Rattle.ovs_lock_desk.specs.PendingSteal.{open_session}
use Rattle.ovs_lock_desk.proofs.pending_steal.open_session.Given as goal

abbrev pub invariant-loop-one : goal.invariant-loop-one
invariant-loop-one l = open_session (drop l.one-index l.late) ≡ open_session l.late
