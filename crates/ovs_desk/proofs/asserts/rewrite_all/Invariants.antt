use Rattle.std.proofs.Common.{◌≡◌, ◌++◌, take, drop, map}
use Rattle.serde_json.specs.View.{view}
use Rattle.ovs_desk.specs.Asserts.{rewritten}
use Rattle.ovs_desk.proofs.asserts.rewrite_all.Given as goal

abbrev pub invariant-loop-operation : goal.invariant-loop-operation
invariant-loop-operation l =
    map view l.operations
    ≡ map (rewritten l.locks.locks l.session) (take l.operation-index (map view l.fn.operations)) ++ drop l.operation-index (map view l.fn.operations)
