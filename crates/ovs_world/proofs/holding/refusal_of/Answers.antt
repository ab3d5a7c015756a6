use Rattle.ovs_links.specs.declared.answer.By.TheVariants.{Prev}
use Rattle.ovs_world.proofs.holding.refusal_of.Goals as goal

pub unreachable-requires : goal.unreachable-requires
unreachable-requires c = absurd ((c.requires.memory _ _ _ _).0 c.in-Fork.is)

pub unreachable-requires-in-Full : goal.unreachable-requires-in-Full
unreachable-requires-in-Full c = absurd ((c.requires.memory _ Prev 0 0).1 c.in-Full.is)
