use Rattle.std.proofs.Common.{◌≡◌}
use Rattle.ovs_cases.proofs.upstreams.taken.Given as goal

abbrev pub invariant-loop-message : goal.invariant-loop-message
invariant-loop-message l = l.session.schema ≡ l.schema
