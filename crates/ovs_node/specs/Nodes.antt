-- What a node keeps from call to call, said of the node whose published steps stand in two copies.
use Rattle.std.specs.Prelude.{ℕ, List, []}
use Rattle.left_right.specs.Handles.{published, pending}
use Rattle.left_right.specs.declared.Absorb.{Ghosts}
use Rattle.left_right.specs.declared.handles.WriteHandle.{WriteHandle}
use Rattle.ovs_links.specs.declared.step.Step.{Step}
use Rattle.ovs_node.specs.InStep.{IsAtRest, IsInStep}
use Rattle.ovs_node.specs.Ledger.{steps_in}
use Rattle.ovs_node.specs.declared.node.Node.{Node}
use Rattle.ovs_node.specs.declared.open_node.OpenNode.{OpenNode}

module _ {K Q R A S : Type 0} {g : Ghosts (List Step) (List Step) S} where
  -- what its views see, with what waits to be shown, is what was handed on; and its store's steps go on from that
  abbrev pub NodeInStep : Node K Q (WriteHandle (List Step) (List Step) R A S g) → Type 0
  NodeInStep n = IsInStep (published n.publisher.handle) (pending n.publisher.handle) n.publisher.front n.publisher.kept (steps_in n.intake.store)

  -- nothing is left to do for it
  abbrev pub NodeAtRest : Node K Q (WriteHandle (List Step) (List Step) R A S g) → Type 0
  NodeAtRest n = IsAtRest n.intake n.settled (published n.publisher.handle)

module _ {K R A S : Type 0} {g : Ghosts (List Step) (List Step) S} where
  -- what the views of a node see whose feed has no name yet, with what waits to be shown, is what was handed on; and it has no link
  abbrev pub OpenNodeInStep : OpenNode K (WriteHandle (List Step) (List Step) R A S g) → Type 0
  OpenNodeInStep n = IsInStep (published n.publisher.handle) (pending n.publisher.handle) n.publisher.front n.publisher.kept []
