use Rattle.ovs_node.specs.Nodes.{NodeInStep}
use Rattle.ovs_node_cases.proofs.fold.fold_all.Given as goal

abbrev pub invariant-loop : goal.invariant-loop
invariant-loop g l =
    NodeInStep l.node
