use Rattle.std.proofs.Common.{◌≡◌, ◌+◌, ℕ}
use Rattle.ovs_world.specs.Deliveries.{scene, Leads, IsQuiet, IsScene}
use Rattle.ovs_world.specs.Nodes.{Grow, no_counts}
use Rattle.ovs_world.proofs.delivering.deliver.Given as goal

-- moves lead here, and feed all but what is left
abbrev pub invariant-turns : goal.invariant-turns
invariant-turns l = record {
  stands : IsScene l.source l.relays l.session;
  quiet : IsQuiet l.session;
  grow : Grow l.fn.relays l.relays;
  leads : (fed : ℕ) × (fed + l.left ≡ l.n) × Leads l.source fed (scene l.fn.relays l.fn.session no_counts) (scene l.relays l.session l.counts);
}

abbrev pub decreases-turns : goal.decreases-turns
decreases-turns l = l.left
