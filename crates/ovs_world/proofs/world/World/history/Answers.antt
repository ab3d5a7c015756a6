use Rattle.std.proofs.Common.{subst}
use Rattle.ovs_world.specs.Headline.{IsFaithful}
use Rattle.ovs_world.specs.Worlds.{WorldValue}
use Rattle.ovs_world.proofs.Faithful.{faithful}
use Rattle.ovs_world.proofs.world.World.history.Goals as goal

pub returns-clause-faithful : goal.returns-clause-faithful
returns-clause-faithful c =
    subst (λ (w : WorldValue). IsFaithful w.source w.relays) c.self.view_is (faithful c.self.inside.source c.self.inside.relays.items c.self.invariant.tier)
