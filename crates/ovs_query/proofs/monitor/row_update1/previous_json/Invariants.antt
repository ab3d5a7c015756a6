use Rattle.std.proofs.Common.{◌≡◌, ◌||◌, drop}
use Rattle.std.specs.Prelude.{fold, is_some}
use Rattle.std.specs.List.{list_any}
use Rattle.serde_json.specs.Data.{no_members}
use Rattle.serde_json.specs.View.{members_view}
use Rattle.ovs_rows.specs.ChangeWriting.{cell_members, as_edited}
use Rattle.ovs_rows.specs.Writing.{with_member}
use Rattle.ovs_query.specs.RowUpdates.{previous}
use Rattle.ovs_query.specs.Projected.{shown_data, shown_columns}
use Rattle.ovs_query.proofs.monitor.row_update1.previous_json.Given as goal

-- whether columns so far changed or any that are left did; and the columns that are left, put to the members now
abbrev pub invariant-loop-part : goal.invariant-loop-part
invariant-loop-part l =
    let left = drop l.part-index l.shown in
    let rest = previous (shown_data left l.id l.old) (shown_data left l.id l.new) in
    let all = previous (shown_data l.shown l.id l.old) (shown_data l.shown l.id l.new) in
    record {
      changed : (l.changed || list_any is_some rest) ≡ list_any is_some all;
      whole : fold with_member (members_view l.members.entries) (cell_members as_edited (shown_columns left) rest) ≡ fold with_member no_members (cell_members as_edited (shown_columns l.shown) all);
    }
