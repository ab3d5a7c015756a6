use Rattle.std.proofs.Common.{rules}
use Rattle.ovs_wire.proofs.framing.framer.Framer.with_limit.Goals as goal

pub returns : goal.returns
returns c = search rules
