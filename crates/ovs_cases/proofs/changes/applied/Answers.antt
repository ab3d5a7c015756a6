use Rattle.std.proofs.Common.{sym, subst}
use Rattle.ovs_types.specs.declared.schema.Schema.{Schema}
use Rattle.ovs_rows.specs.Change.{IsChangeOf}
use Rattle.ovs_query.specs.Updates.{AreTouchedOf}
use Rattle.ovs_query.proofs.Beginnings.{applied_rows}
use Rattle.ovs_cases.proofs.changes.applied.Goals as goal

pub apply-requires : goal.apply-requires
apply-requires c = subst (λ (s : Schema). IsChangeOf s.description.tables c.in_ok-change.change) c.schema.ensures.value c.in_ok-change.ensures.tables

pub returns-in-Ok-clause-touched : goal.returns-in-Ok-clause-touched
returns-in-Ok-clause-touched c =
    let tables = c.args.database.now.schema.description.tables in
    subst (AreTouchedOf tables) (sym c.in-Ok.ensures.done.named)
    (applied_rows tables c.args.database.now.rows c.in_ok-change.change _ c.schema.ensures.rows
    (subst (λ (s : Schema). IsChangeOf s.description.tables c.in_ok-change.change) c.schema.ensures.value c.in_ok-change.ensures.tables))
