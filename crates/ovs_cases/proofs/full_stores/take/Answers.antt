use Rattle.std.proofs.Common.{subst}
use Rattle.ovs_types.specs.declared.schema.Schema.{Schema}
use Rattle.ovs_links.specs.Sets.{IsOfTables}
use Rattle.ovs_cases.proofs.full_stores.take.Goals as goal

pub take-requires : goal.take-requires
take-requires c = record {
  of_tables = subst (λ (s : Schema). IsOfTables s.description.tables c.in-Ok.link) c.schema.ensures.value c.in-Ok.ensures.tables;
}
