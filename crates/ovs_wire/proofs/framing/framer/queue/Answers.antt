use Rattle.std.proofs.Common.{rules}
use Rattle.ovs_wire.proofs.framing.framer.queue.Goals as goal

pub returns-clause-ok : goal.returns-clause-ok
returns-clause-ok c = search rules
