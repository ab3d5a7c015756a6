use Rattle.std.proofs.Common.{refl, ap}
use Rattle.ovs_node.proofs.Fresh.{account_empty}
use Rattle.ovs_node.proofs.intake.Intake.new.Goals as goal

pub invariant_of-result : goal.invariant_of-result
invariant_of-result g c = (
  ap (λ s. s.schema) c.requires.store,
  account_empty g.K.NodeName.schema _ c.requires.store c.requires.feed refl c.new.ensures.items refl refl refl,
)
