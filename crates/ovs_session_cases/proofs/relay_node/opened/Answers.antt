use Rattle.std.proofs.Common.{subst}
use Rattle.ovs_types.specs.declared.schema.Schema.{Schema}
use Rattle.ovs_links.specs.Sets.{IsOfTables}
use Rattle.ovs_session_cases.proofs.relay_node.opened.Goals as goal

pub new-link-requires : goal.new-link-requires
new-link-requires g c = record {
  of_tables = subst (λ (s : Schema). IsOfTables s.description.tables c.in_ok-link.link) c.requires.name.1 c.in_ok-link.ensures.tables;
}
