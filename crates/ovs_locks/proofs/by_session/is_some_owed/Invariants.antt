use Rattle.std.proofs.Common.{◌≡◌}
use Rattle.ovs_locks.specs.BySession.{is_some_owed}
use Rattle.ovs_locks.proofs.by_session.is_some_owed.Given as goal

abbrev pub invariant-loop-name : goal.invariant-loop-name
invariant-loop-name l = is_some_owed l._name-iterator ≡ is_some_owed l.names.entries
