use Rattle.std.proofs.Common.{ap, ◌∙◌}
use Rattle.serde_json.specs.Data.{put}
use Rattle.serde_json.specs.View.{view, members_view}
use Rattle.serde_json.proofs.Views.{members_view-insert_entry}
use Rattle.ovs_wire.proofs.message.writing.put_or_keep.Goals as goal

pub returns-in-Ok-insert-clause-value : goal.returns-in-Ok-insert-clause-value
returns-in-Ok-insert-clause-value c =
    ap members_view c.in-Ok-insert.ensures.entries
    ∙ members_view-insert_entry c.args.members.now.entries c.in-Ok.name c.args.value
    ∙ ap (λ name. put name (view c.args.value) (members_view c.args.members.now.entries)) c.in-Ok.ensures.ok
