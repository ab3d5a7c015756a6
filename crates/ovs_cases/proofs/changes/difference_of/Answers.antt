use Rattle.std.proofs.Common.{sym, subst}
use Rattle.ovs_types.specs.declared.schema.Schema.{Schema}
use Rattle.ovs_rows.specs.Change.{IsChangeOf}
use Rattle.ovs_cases.proofs.changes.difference_of.Goals as goal

pub written-requires : goal.written-requires
written-requires c = record {
  tables = subst (λ (s : Schema). IsChangeOf s.description.tables c.in_ok-change.change) (sym c.schema.ensures.value) c.in_ok-change.ensures.leads.of_tables;
}
