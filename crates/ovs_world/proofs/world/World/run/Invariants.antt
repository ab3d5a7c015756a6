use Rattle.std.proofs.Common.{take}
use Rattle.ovs_world.specs.Headline.{IsFaithful}
use Rattle.ovs_world.specs.Steps.{IsRun}
use Rattle.ovs_world.specs.Worlds.{AreSettled, new_world}
use Rattle.ovs_world.proofs.world.World.run.Given as goal

-- the events before this one happened, all nodes are settled, and faithful to the source's history
abbrev pub invariant-loop-event : goal.invariant-loop-event
invariant-loop-event l = record {
  run : IsRun (new_world l.schema l.relays) (take l.event-index l.events) l.world;
  settled : AreSettled l.world;
  faithful : IsFaithful l.world.source l.world.relays;
}
