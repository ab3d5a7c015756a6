use Rattle.std.proofs.Common.{rules}
use Rattle.ovs_wire.proofs.message.Message.copy.Goals as goal

pub returns-in_ok-copy-in-Reply-3 : goal.returns-in_ok-copy-in-Reply-3
returns-in_ok-copy-in-Reply-3 c = search rules
