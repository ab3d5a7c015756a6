use Rattle.std.proofs.Common.{refl, ap, sym, ◌∙◌}
use Rattle.ovs_node.proofs.Begins.{steps_grow}
use Rattle.ovs_node.proofs.Takings.{account_moved, grown_start}
use Rattle.ovs_node.proofs.intake.Intake.settle.Goals as goal

pub invariant_of-self : goal.invariant_of-self
invariant_of-self g c =
    let i = c.self.inside in
    let keeps = c.settle.ensures.links in (
      keeps.schema ∙ c.self.invariant.0,
      account_moved _ _ c.self.invariant.1 refl refl keeps.links (grown_start i.store.folded c.settle.new.self.folded keeps.grows) refl refl refl refl,
    )

pub returns-clause-grows : goal.returns-clause-grows
returns-clause-grows g c =
    rw (← c.self.view_is) (steps_grow c.self.inside.store c.settle.new.self c.settle.ensures.links.schema c.settle.ensures.links.grows)
