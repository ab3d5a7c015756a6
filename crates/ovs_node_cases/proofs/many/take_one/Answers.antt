use Rattle.std.proofs.Common.{subst}
use Rattle.ovs_types.specs.declared.schema.Schema.{Schema}
use Rattle.ovs_links.specs.Sets.{IsOfTables}
use Rattle.ovs_node_cases.proofs.many.take_one.Goals as goal

pub take-requires : goal.take-requires
take-requires c = record {
  of_tables = subst (λ (s : Schema). IsOfTables s.description.tables c.in_ok-link.link) c.schema.ensures.value c.in_ok-link.ensures.tables;
}
