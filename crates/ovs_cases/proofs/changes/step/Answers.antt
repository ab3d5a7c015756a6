use Rattle.std.proofs.Common.{subst}
use Rattle.ovs_types.specs.declared.schema.Schema.{Schema}
use Rattle.ovs_rows.specs.Change.{IsChangeOf}
use Rattle.ovs_cases.proofs.changes.step.Goals as goal

pub apply-requires : goal.apply-requires
apply-requires c = record {
  tables = subst (λ (s : Schema). IsChangeOf s.description.tables c.in_ok-change.change) c.schema.ensures.value c.in_ok-change.ensures.tables;
}
