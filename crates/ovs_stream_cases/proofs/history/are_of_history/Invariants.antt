use Rattle.std.proofs.Common.{◌≡◌, drop}
use Rattle.ovs_rows.specs.Row.{AreRowsOf, no_rows}
use Rattle.ovs_stream_cases.specs.Made.{AreMadeFrom}
use Rattle.ovs_stream_cases.proofs.history.are_of_history.Given as goal

-- the rows are of the tables, and where the links that are left lead on from them, all do
abbrev pub invariant-loop-number : goal.invariant-loop-number
invariant-loop-number l = record {
  schema : l.database.schema ≡ l.schema;
  rows : AreRowsOf l.schema.description.tables l.database.rows;
  whole : AreMadeFrom l.schema.description.tables l.head l.database.rows (drop l.number l.links) → AreMadeFrom l.schema.description.tables 0 no_rows l.links;
}
