use Rattle.std.proofs.Common.{sym, subst}
use Rattle.ovs_types.specs.Schema.{SchemaValue}
use Rattle.ovs_rows.specs.Change.{IsChangeOf}
use Rattle.ovs_upstream.proofs.up_session.resynced.Goals as goal

pub whole_copy-requires : goal.whole_copy-requires
whole_copy-requires c = record {
  tables = subst (λ (s : SchemaValue). IsChangeOf s.description.tables c.in_ok-change.change) (sym c.schema-2.ensures.value)
      (subst (λ (s : SchemaValue). IsChangeOf s.description.tables c.in_ok-change.change) c.schema.ensures.value c.in_ok-change.ensures.tables);
}
