use Rattle.ovs_node.specs.Nodes.{NodeInStep}
use Rattle.ovs_node_threads.specs.Reporting.{KeepsEnds}
use Rattle.ovs_node_threads.proofs.ending.fold_rest.Given as goal

-- the node is in step, and the same ends are back
abbrev pub invariant-loop : goal.invariant-loop
invariant-loop g l =
    NodeInStep l.node × KeepsEnds l.fn.node.intake.feed l.node.intake.feed
