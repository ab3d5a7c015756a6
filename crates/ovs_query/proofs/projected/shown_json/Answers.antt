use Rattle.std.proofs.Common.{ap, ◌∙◌}
use Rattle.serde_json.specs.Data.{object}
use Rattle.serde_json.specs.View.{members_view}
use Rattle.serde_json.proofs.Views.{view-Object}
use Rattle.ovs_query.specs.RowWriting.{shown_member}
use Rattle.ovs_query.proofs.Members.{members_end}
use Rattle.ovs_query.proofs.projected.shown_json.Goals as goal

pub returns : goal.returns
returns c = record {
  value = view-Object c.loop-part.members ∙ ap object (members_end (shown_member c.args.id c.args.row.now) c.args.shown.now c.loop-part.part-index (members_view c.loop-part.members.entries) _ c.loop-part-test.false c.loop-part.invariant);
}
