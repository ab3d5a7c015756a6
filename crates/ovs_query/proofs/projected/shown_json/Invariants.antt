use Rattle.std.proofs.Common.{◌≡◌, map, drop}
use Rattle.std.specs.Prelude.{fold}
use Rattle.serde_json.specs.Data.{no_members}
use Rattle.serde_json.specs.View.{members_view}
use Rattle.ovs_rows.specs.Writing.{with_member}
use Rattle.ovs_query.specs.RowWriting.{shown_member}
use Rattle.ovs_query.proofs.projected.shown_json.Given as goal

abbrev pub invariant-loop-part : goal.invariant-loop-part
invariant-loop-part l = fold with_member (members_view l.members.entries) (map (shown_member l.id l.row) (drop l.part-index l.shown)) ≡ fold with_member no_members (map (shown_member l.id l.row) l.shown)
