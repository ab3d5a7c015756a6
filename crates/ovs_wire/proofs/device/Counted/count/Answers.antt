use Rattle.std.proofs.Common.{rules}
use Rattle.ovs_wire.proofs.device.Counted.count.Goals as goal

pub returns-then-is_failed-clause-calls : goal.returns-then-is_failed-clause-calls
returns-then-is_failed-clause-calls c = search rules

pub returns-else-is_failed-clause-calls : goal.returns-else-is_failed-clause-calls
returns-else-is_failed-clause-calls c = search rules

pub returns-else-is_failed-clause-failures : goal.returns-else-is_failed-clause-failures
returns-else-is_failed-clause-failures c = search rules
