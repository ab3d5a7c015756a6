use Rattle.std.proofs.Common.{ap, ◌∙◌, option_map}
use Rattle.serde_json.specs.Find.{get_member}
use Rattle.serde_json.specs.View.{view, members_view}
use Rattle.serde_json.proofs.Views.{view-lookup}
use Rattle.ovs_wire.proofs.Members.{get_member-remove_entry}
use Rattle.ovs_wire.proofs.message.reading.take.Goals as goal

pub returns-clause-found : goal.returns-clause-found
returns-clause-found c = ap (option_map view) c.remove.ensures.value ∙ view-lookup c.args.name.now
    c.args.members.now.entries

pub returns-clause-others : goal.returns-clause-others
returns-clause-others c = λ k other. ap (λ es. get_member k (members_view es)) c.remove.ensures.entries ∙
    get_member-remove_entry c.args.name.now k c.args.members.now.entries other
