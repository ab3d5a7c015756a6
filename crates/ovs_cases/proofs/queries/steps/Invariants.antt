use Rattle.std.proofs.Common.{◌≡◌}
use Rattle.ovs_cases.proofs.queries.steps.Given as goal

abbrev pub invariant-loop-number : goal.invariant-loop-number
invariant-loop-number l = l.database.schema ≡ l.fn.database.schema
