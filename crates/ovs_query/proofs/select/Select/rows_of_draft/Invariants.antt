use Rattle.std.proofs.Common.{◌≡◌, ◌++◌, map, length}
use Rattle.serde_json.specs.View.{view}
use Rattle.ovs_rows.specs.Scanning.{rows_past}
use Rattle.ovs_rows.specs.Writing.{rows_in}
use Rattle.ovs_query.specs.RowWriting.{rows_json}
use Rattle.ovs_query.proofs.select.Select.rows_of_draft.Given as goal

abbrev pub invariant-loop-id : goal.invariant-loop-id
invariant-loop-id l = map view l.found.items ++ rows_json l.self (rows_past l.self.table l.last l.draft.rows) ≡ rows_json l.self (rows_in l.self.table l.draft.rows)

abbrev pub decreases-loop-id : goal.decreases-loop-id
decreases-loop-id l = length (rows_past l.self.table l.last l.draft.rows)
