use Rattle.std.proofs.Common.{◌≡◌, ◌++◌, [], drop}
use Rattle.ovs_rows.specs.Cells.{data_of}
use Rattle.ovs_operations.proofs.mutating.default_row.Given as goal

abbrev pub invariant-loop-named : goal.invariant-loop-named
invariant-loop-named l = l.data.items ++ data_of (drop l.named-index l.columns) [] ≡ data_of l.columns []
