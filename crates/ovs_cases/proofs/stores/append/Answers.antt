use Rattle.std.proofs.Common.{subst}
use Rattle.ovs_types.specs.declared.schema.Schema.{Schema}
use Rattle.ovs_links.specs.Sets.{IsOfTables}
use Rattle.ovs_cases.proofs.stores.append.Goals as goal

pub append_link-requires : goal.append_link-requires
append_link-requires c = record {
  tables = subst (λ (s : Schema). IsOfTables s.description.tables c.in_ok-link.link) c.schema.ensures.value c.in_ok-link.ensures.tables;
}
