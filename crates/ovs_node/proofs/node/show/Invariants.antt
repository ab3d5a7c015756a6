use Rattle.std.proofs.Common.{◌≡◌}
use Rattle.left_right.specs.Handles.{published, pending}
use Rattle.ovs_links.specs.Absorbing.{last_chain}
use Rattle.ovs_views.specs.Published.{IsNodeChain, all_with}
use Rattle.ovs_node.specs.InStep.{HasShown, IsInStep}
use Rattle.ovs_node.proofs.node.show.Given as goal

abbrev pub invariant-loop-number : goal.invariant-loop-number
invariant-loop-number g l =
    IsInStep (published l.publisher.handle) (pending l.publisher.handle) l.publisher.front l.publisher.kept l.steps
    × HasShown (last_chain (all_with l.publisher.front l.publisher.kept)) l.steps l.number
    × IsNodeChain g.K.NodeName.schema (all_with l.publisher.front l.publisher.kept)
