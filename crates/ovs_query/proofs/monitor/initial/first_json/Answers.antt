use Rattle.std.proofs.Common.{ap, ◌∙◌}
use Rattle.serde_json.specs.Data.{object}
use Rattle.serde_json.specs.View.{members_view}
use Rattle.serde_json.proofs.Views.{view-Object}
use Rattle.ovs_query.specs.Telling.{first_members}
use Rattle.ovs_query.specs.UpdateWriting.{table_member}
use Rattle.ovs_query.proofs.Members.{all_counted}
use Rattle.ovs_query.proofs.monitor.initial.first_json.Goals as goal

pub returns : goal.returns
returns c = record {
  value = view-Object c.loop-number.members
      ∙ ap object (all_counted (table_member (first_members c.args.notation c.args.database.now.rows)) c.args.watches.now c.loop-number.number (members_view c.loop-number.members.entries) _ c.loop-number-test.false c.loop-number.invariant);
}
