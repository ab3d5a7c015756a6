use Rattle.std.proofs.Common.{◌≡◌, ◌++◌, length, map}
use Rattle.serde_json.specs.Data.{null}
use Rattle.serde_json.specs.View.{view}
use Rattle.ovs_operations.proofs.running.add_nulls.Given as goal

abbrev pub invariant-loop-left : goal.invariant-loop-left
invariant-loop-left l =
    map view l.answers.items ++ map (λ d. null) (map view l.left) ≡ map view l.fn.answers.items ++ map (λ d. null) (map view l.fn.operations)

abbrev pub decreases-loop-left : goal.decreases-loop-left
decreases-loop-left l = length l.left
