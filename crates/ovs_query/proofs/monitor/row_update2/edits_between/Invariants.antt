use Rattle.std.proofs.Common.{◌≡◌, ◌++◌, drop}
use Rattle.ovs_rows.specs.DatabaseDifference.{edits_between}
use Rattle.ovs_rows.specs.Row.{AreDataOf}
use Rattle.ovs_query.specs.Projected.{shown_data, shown_columns}
use Rattle.ovs_query.proofs.monitor.row_update2.edits_between.Given as goal

-- what is left, of which the same is known, and the edits so far
abbrev pub invariant-loop-part : goal.invariant-loop-part
invariant-loop-part l =
    let left = drop l.part-index l.shown in
    record {
      are_old : AreDataOf (shown_columns left) (shown_data left l.id l.old);
      are_new : AreDataOf (shown_columns left) (shown_data left l.id l.new);
      whole : l.edits.items ++ edits_between (shown_columns left) (shown_data left l.id l.old) (shown_data left l.id l.new) ≡ edits_between (shown_columns l.shown) (shown_data l.shown l.id l.old) (shown_data l.shown l.id l.new);
    }
