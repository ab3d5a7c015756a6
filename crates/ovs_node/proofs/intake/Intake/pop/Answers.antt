use Rattle.std.proofs.Common.{refl, ap, sym, ◌∙◌}
use Rattle.ovs_node.proofs.Takings.{account_popped}
use Rattle.ovs_node.proofs.intake.Intake.pop.Goals as goal

pub invariant_of-self : goal.invariant_of-self
invariant_of-self g c = (
  c.self.invariant.0,
  account_popped _ _ c.in-Some.item c.self.invariant.1 (ap (λ x. x.kept) c.self.view_is ∙ c.requires.none) refl (ap (λ f. f.taken) c.in-Some.ensures.some) refl refl refl refl refl,
)

pub returns-in-Some-clause-popped : goal.returns-in-Some-clause-popped
returns-in-Some-clause-popped g c = λ _. rw (← c.self.view_is) (record { item = c.in-Some.item; taken = c.in-Some.ensures.some })
