use Rattle.std.proofs.Common.{◌≡◌}
use Rattle.std.specs.Prelude.{fold}
use Rattle.std.specs.List.{filter_map}
use Rattle.serde_json.specs.Data.{no_members}
use Rattle.serde_json.specs.View.{members_view}
use Rattle.ovs_rows.specs.Writing.{with_member, rows_in}
use Rattle.ovs_query.specs.Telling.{first_member}
use Rattle.ovs_query.proofs.monitor.initial.first_rows.Given as goal

-- the rows that are left, put to the members now
abbrev pub invariant-loop-place : goal.invariant-loop-place
invariant-loop-place l =
    fold with_member (members_view l.members.entries) (filter_map (first_member l.notation l.watched) l.place-iterator)
    ≡ fold with_member no_members (filter_map (first_member l.notation l.watched) (rows_in l.number l.database.rows))
