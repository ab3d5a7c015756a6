use Rattle.std.proofs.Common.{◌≡◌, ◌++◌, map}
use Rattle.serde_json.specs.View.{view}
use Rattle.ovs_rows.specs.Writing.{rows_in}
use Rattle.ovs_query.specs.RowWriting.{rows_json}
use Rattle.ovs_query.proofs.select.Select.rows_of.Given as goal

abbrev pub invariant-loop-place : goal.invariant-loop-place
invariant-loop-place l = map view l.found.items ++ rows_json l.self l.place-iterator ≡ rows_json l.self (rows_in l.self.table l.database.rows)
