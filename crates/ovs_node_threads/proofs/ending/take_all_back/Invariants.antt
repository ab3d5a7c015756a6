use Rattle.std.proofs.Common.{◌≡◌}
use Rattle.ovs_node.specs.Nodes.{NodeInStep}
use Rattle.ovs_node_threads.specs.Reporting.{AreSent}
use Rattle.ovs_node_threads.proofs.ending.take_all_back.Given as goal

-- the node is in step, and those that are back have sent what may be sent
abbrev pub invariant-loop-back : goal.invariant-loop-back
invariant-loop-back g l =
    NodeInStep l.node × ∥ AreSent g.F.Sender.sends l.node.intake.feed.returned ∥₁ × (l.node.intake.feed.ends ≡ l.fn.node.intake.feed.ends)
