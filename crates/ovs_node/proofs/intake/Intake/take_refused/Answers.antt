use Rattle.std.proofs.Common.{◌≡◌, [], ap, ◌∙◌}
use Rattle.ovs_node.proofs.Takings.{all_were_told}
use Rattle.ovs_node.proofs.intake.Intake.take_refused.Goals as goal

pub invariant_of-self : goal.invariant_of-self
invariant_of-self g c =
    let none : c.replace.new.dest.items ≡ [] = ap (λ v. v.items) c.replace.ensures.after ∙ c.new.ensures.items in
    (c.self.invariant.0, rw none (all_were_told _ c.self.invariant.1))
