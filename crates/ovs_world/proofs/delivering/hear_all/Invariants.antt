use Rattle.std.proofs.Common.{◌≡◌, length}
use Rattle.ovs_world.specs.Deliveries.{scene, Leads, IsScene}
use Rattle.ovs_world.specs.Nodes.{Grow}
use Rattle.ovs_world.proofs.delivering.hear_all.Given as goal

-- moves lead here, and feed nothing
abbrev pub invariant-loop : goal.invariant-loop
invariant-loop l = record {
  stands : IsScene l.source l.relays l.session;
  grow : Grow l.fn.relays l.relays;
  ending : l.session.downward.framing.ending ≡ l.fn.session.downward.framing.ending;
  leads : Leads l.source 0 (scene l.fn.relays l.fn.session l.fn.counts) (scene l.relays l.session l.counts);
}

abbrev pub decreases-loop : goal.decreases-loop
decreases-loop l = length l.session.downward.framing.waiting
