use Rattle.std.proofs.Common.{◌≡◌, drop, map}
use Rattle.std.specs.Prelude.{fold}
use Rattle.std.specs.List.{AllByRecursion, enumerate_from, filter_map}
use Rattle.serde_json.specs.Data.{no_members}
use Rattle.serde_json.specs.View.{members_view}
use Rattle.ovs_rows.specs.Applied.{seen}
use Rattle.ovs_rows.specs.Writing.{with_member}
use Rattle.ovs_query.specs.Telling.{told_members, IsSpelledTable}
use Rattle.ovs_query.specs.UpdateWriting.{table_member}
use Rattle.ovs_query.proofs.monitor.updates.step_json.Given as goal

-- the tables that are left, put to the members now; if what is told of them stands for it, so it does of all
abbrev pub invariant-loop-number : goal.invariant-loop-number
invariant-loop-number l =
    let table = table_member (told_members l.notation (map seen l.applied)) in
    let spelled = IsSpelledTable l.notation (map seen l.applied) in
    record {
      whole : fold with_member (members_view l.members.entries) (filter_map table (enumerate_from l.number (drop l.number l.watches))) ≡ fold with_member no_members (filter_map table (enumerate_from 0 l.watches));
      spelled : AllByRecursion spelled (enumerate_from l.number (drop l.number l.watches)) → AllByRecursion spelled (enumerate_from 0 l.watches);
    }
