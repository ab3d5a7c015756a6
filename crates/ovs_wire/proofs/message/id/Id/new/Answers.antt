use Rattle.std.proofs.Common.{rules}
use Rattle.ovs_wire.proofs.message.id.Id.new.Goals as goal

pub invariant_of-result : goal.invariant_of-result
invariant_of-result c = search rules
