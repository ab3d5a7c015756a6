use Rattle.std.proofs.Common.{rules}
use Rattle.ovs_wire.proofs.device.CountedWrite.flush.Goals as goal

pub returns-clause-calls : goal.returns-clause-calls
returns-clause-calls c = search rules
