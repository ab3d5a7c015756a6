use Rattle.std.proofs.Common.{◌≡◌, subst}
use Rattle.std.specs.Prelude.{OnOk}
use Rattle.serde_json.specs.View.{members_view}
use Rattle.ovs_rows.specs.ChangeWriting.{with_some}
use Rattle.ovs_query.specs.Telling.{first_members}
use Rattle.ovs_query.proofs.Members.{table_put}
use Rattle.ovs_query.proofs.monitor.initial.put_first.Goals as goal

pub returns-in_ok-rows-in-Some : goal.returns-in_ok-rows-in-Some
returns-in_ok-rows-in-Some c = record {
  value = subst (λ o. OnOk c.put_table.result (members_view c.put_table.new.members.entries ≡ with_some (members_view c.args.members.now.entries) o))
      (table_put (first_members c.args.notation c.args.database.now.rows) c.args.number c.args.watched.now _ _ c.in-Some.is c.in_ok-rows-in-Some.ensures.value)
      c.put_table.ensures.value;
}
