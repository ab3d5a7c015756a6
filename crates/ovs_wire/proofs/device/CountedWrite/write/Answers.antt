use Rattle.std.proofs.Common.{rules}
use Rattle.ovs_wire.proofs.device.CountedWrite.write.Goals as goal

pub returns-clause-failures : goal.returns-clause-failures
returns-clause-failures c = search rules
