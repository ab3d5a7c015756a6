use Rattle.std.proofs.Common.{◌≡◌}
use Rattle.ovs_recorded_source.proofs.recorder.know.Given as goal

-- nothing more is known yet
abbrev pub invariant-loop : goal.invariant-loop
invariant-loop g l = l.known ≡ l.fn.known
