use Rattle.std.proofs.Common.{◌≡◌, ◌++◌, take, drop}
use Rattle.std.specs.Prelude.{map}
use Rattle.ovs_reader.specs.Telling.{moved_past}
use Rattle.ovs_reader.proofs.session.move_all_past.Given as goal

abbrev pub invariant-loop-monitor : goal.invariant-loop-monitor
invariant-loop-monitor l = l.monitors ≡ map (moved_past l.position) (take l.monitor-index l.fn.monitors) ++ drop l.monitor-index l.fn.monitors
