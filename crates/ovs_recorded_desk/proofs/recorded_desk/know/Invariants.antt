use Rattle.std.proofs.Common.{◌≡◌}
use Rattle.ovs_recorded_desk.proofs.recorded_desk.know.Given as goal

-- nothing more is known yet
abbrev pub invariant-loop : goal.invariant-loop
invariant-loop g l = l.known ≡ l.fn.known
