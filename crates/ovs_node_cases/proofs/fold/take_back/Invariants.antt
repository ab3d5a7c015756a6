use Rattle.ovs_node.specs.Nodes.{NodeInStep}
use Rattle.ovs_node_cases.proofs.fold.take_back.Given as goal

abbrev pub invariant-loop-back : goal.invariant-loop-back
invariant-loop-back g l =
    NodeInStep l.node
