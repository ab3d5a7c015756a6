use Rattle.std.proofs.Common.{◌≡◌, drop, map}
use Rattle.std.specs.Prelude.{fold}
use Rattle.std.specs.List.{AllByRecursion, filter_map}
use Rattle.serde_json.specs.Data.{no_members}
use Rattle.serde_json.specs.View.{members_view}
use Rattle.ovs_rows.specs.Applied.{seen}
use Rattle.ovs_rows.specs.Writing.{with_member}
use Rattle.ovs_query.specs.Telling.{told_member, IsTellable, IsSpelledRow}
use Rattle.ovs_query.proofs.monitor.updates.told_rows.Given as goal

-- the rows that are left, put to the members now; if what is told of them stands for it, so it does of all
abbrev pub invariant-loop-touched : goal.invariant-loop-touched
invariant-loop-touched l =
    let left = map seen (drop l.touched-index l.rows) in
    record {
      tellable : AllByRecursion (IsTellable l.notation l.watched) left;
      whole : fold with_member (members_view l.members.entries) (filter_map (told_member l.notation l.watched) left) ≡ fold with_member no_members (filter_map (told_member l.notation l.watched) (map seen l.rows));
      spelled : AllByRecursion (IsSpelledRow l.notation l.watched) left → AllByRecursion (IsSpelledRow l.notation l.watched) (map seen l.rows);
    }
