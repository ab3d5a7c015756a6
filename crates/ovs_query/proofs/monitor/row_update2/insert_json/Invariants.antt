use Rattle.std.proofs.Common.{◌≡◌, drop}
use Rattle.std.specs.Prelude.{fold}
use Rattle.serde_json.specs.Data.{no_members}
use Rattle.serde_json.specs.View.{members_view}
use Rattle.ovs_rows.specs.ChangeWriting.{cell_members, beside_default, AreSpelled}
use Rattle.ovs_rows.specs.Writing.{with_member}
use Rattle.ovs_query.specs.Projected.{shown_data, shown_columns}
use Rattle.ovs_query.proofs.monitor.row_update2.insert_json.Given as goal

-- the columns that are left, put to the members now; if they stand for what was written of them, all do
abbrev pub invariant-loop-part : goal.invariant-loop-part
invariant-loop-part l =
    let left = drop l.part-index l.shown in
    record {
      whole : fold with_member (members_view l.members.entries) (cell_members beside_default (shown_columns left) (shown_data left l.id l.row)) ≡ fold with_member no_members (cell_members beside_default (shown_columns l.shown) (shown_data l.shown l.id l.row));
      spelled : AreSpelled beside_default (shown_columns left) (shown_data left l.id l.row) → AreSpelled beside_default (shown_columns l.shown) (shown_data l.shown l.id l.row);
    }
