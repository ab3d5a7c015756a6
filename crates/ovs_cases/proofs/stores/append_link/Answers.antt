use Rattle.std.proofs.Common.{sym, subst}
use Rattle.ovs_types.specs.declared.schema.Schema.{Schema}
use Rattle.ovs_links.specs.Sets.{IsOfTables}
use Rattle.ovs_cases.proofs.stores.append_link.Goals as goal

pub append-requires-clause-of_tables : goal.append-requires-clause-of_tables
append-requires-clause-of_tables c =
    subst (λ (s : Schema). IsOfTables s.description.tables c.args.link) (sym c.settle.ensures.links.schema) c.requires.tables
