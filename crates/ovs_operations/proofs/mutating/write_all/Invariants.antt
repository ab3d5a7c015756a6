use Rattle.std.proofs.Common.{◌≡◌, length}
use Rattle.ovs_rows.specs.Row.{AreDataOf}
use Rattle.ovs_operations.specs.Operation.{AreMutationsOf}
use Rattle.ovs_operations.specs.Mutating.{write_all}
use Rattle.ovs_operations.proofs.mutating.write_all.Given as goal

abbrev pub invariant-loop-left : goal.invariant-loop-left
invariant-loop-left l = record {
  row : AreDataOf l.columns l.row;
  mutations : AreMutationsOf l.columns l.left;
  rest : write_all l.columns l.row l.left ≡ write_all l.columns l.fn.row l.mutations;
}

abbrev pub decreases-loop-left : goal.decreases-loop-left
decreases-loop-left l = length l.left
