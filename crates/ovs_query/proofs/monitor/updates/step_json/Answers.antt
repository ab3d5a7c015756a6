use Rattle.std.proofs.Common.{map, ap, ◌∙◌}
use Rattle.serde_json.specs.Data.{object}
use Rattle.serde_json.specs.View.{members_view}
use Rattle.serde_json.proofs.Views.{view-Object}
use Rattle.ovs_rows.specs.Applied.{seen}
use Rattle.ovs_query.specs.Telling.{told_members}
use Rattle.ovs_query.specs.UpdateWriting.{table_member}
use Rattle.ovs_query.proofs.Members.{all_counted}
use Rattle.ovs_query.proofs.ShownRows.{item_tellable}
use Rattle.ovs_query.proofs.monitor.updates.step_json.Goals as goal

pub put_told-requires : goal.put_told-requires
put_told-requires c = record {
  ascending = c.requires.ascending;
  tellable = item_tellable c.args.notation c.args.watches.now (map seen c.args.applied.now) c.loop-number.number c.index-watches-number.result c.loop-number-test.true c.index-watches-number.is c.requires.tellable;
}

pub returns-clause-value : goal.returns-clause-value
returns-clause-value c =
    view-Object c.loop-number.members
    ∙ ap object (all_counted (table_member (told_members c.args.notation (map seen c.args.applied.now))) c.args.watches.now c.loop-number.number (members_view c.loop-number.members.entries) _ c.loop-number-test.false c.loop-number.invariant.whole)
