use Rattle.std.proofs.Common.{◌≡◌, Some, sym, subst, ap, ◌∙◌}
use Rattle.std.specs.FinMap.{get}
use Rattle.std.specs.Option.{option_copied}
use Rattle.ovs_types.specs.Schema.{SchemaValue}
use Rattle.ovs_rows.specs.Row.{IsRowAt}
use Rattle.ovs_rows.specs.Database.{DatabaseValue}
use Rattle.ovs_rows.specs.DatabaseDifference.{IsCommit}
use Rattle.ovs_rows.specs.Draft.{DraftValue}
use Rattle.ovs_operations.proofs.Courses.{row_kept, row_commit}
use Rattle.ovs_operations.proofs.carrying.insert.Goals as goal

pub returns-in_ok-inserted_json-in-Ok-clause-commit : goal.returns-in_ok-inserted_json-in-Ok-clause-commit
returns-in_ok-inserted_json-in-Ok-clause-commit c = λ k.
    let p = c.args.place in
    let before = c.args.work.now.before in
    let tables = before.schema.description.tables in
    let tables_is : c.tables.result.now ≡ tables = c.tables.ensures.all ∙ ap (λ (s : SchemaValue). s.description.tables) c.schema.ensures.value in
    let old = option_copied c.row-before.result in
    let was = c.row-before.ensures.value ∙ ap (λ (d : DatabaseValue). get d.rows p) c.base.ensures.value in
    let at : IsRowAt tables p c.in_ok-row-in-Ok.row = row_kept tables c.args.commit p old c.in_ok-row-in-Ok.row (Some c.in-Ok.columns) c.requires.operation.0 (rw (c.in-Ok.is, tables_is) at c.in_ok-columns.ensures.kept) c.in_ok-row-in-Ok.ensures.value in
    subst (λ (d : DraftValue). IsCommit tables before.rows d.rows c.args.commit) (sym c.in_ok-set_row-in-Ok.ensures.value)
    (row_commit tables c.args.commit before.rows c.args.work.now.rows p old c.in_ok-row-in-Ok.row (Some c.in-Ok.columns) was c.in_ok-row-in-Ok.ensures.value at k)
