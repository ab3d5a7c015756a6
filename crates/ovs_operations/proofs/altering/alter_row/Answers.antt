use Rattle.std.proofs.Common.{◌≡◌, sym, subst, ap, ◌∙◌}
use Rattle.std.specs.FinMap.{get}
use Rattle.std.specs.Option.{option_copied}
use Rattle.ovs_rows.specs.declared.row_key.RowKey.{RowKey}
use Rattle.ovs_rows.specs.Row.{AreDataOf, IsRowAt, columns_at}
use Rattle.ovs_rows.specs.Draft.{DraftValue}
use Rattle.ovs_rows.specs.Database.{DatabaseValue}
use Rattle.ovs_rows.specs.DatabaseDifference.{IsCommit}
use Rattle.ovs_types.specs.Schema.{SchemaValue}
use Rattle.ovs_types.specs.declared.schema.Table.{Table}
use Rattle.std.specs.Prelude.{List}
use Rattle.ovs_types.specs.declared.schema.NamedColumn.{NamedColumn}
use Rattle.ovs_operations.proofs.Courses.{row_kept, row_commit}
use Rattle.ovs_operations.proofs.altering.alter_row.Goals as goal

pub altered-requires-clause-row : goal.altered-requires-clause-row
altered-requires-clause-row c =
    let p : RowKey = record { table = c.args.table; id = c.args.id } in
    let columns : c.columns_at-columns.result.now ≡ columns_at c.args.work.now.before.schema.description.tables c.args.table
    = c.columns_at-columns.ensures.value ∙ ap (λ (ts : List Table). columns_at ts c.args.table) (c.tables.ensures.all ∙ ap (λ (s : SchemaValue). s.description.tables) c.schema-schema.ensures.value) in
    let stands = c.schema-schema.ensures.rows p c.in-Some.row.now (sym c.in-Some.ensures.value) in
    subst (λ (cs : List NamedColumn). AreDataOf cs c.in-Some.row.now.columns) (sym columns) stands.1

pub set_row-requires : goal.set_row-requires
set_row-requires c =
    let p : RowKey = record { table = c.args.table; id = c.args.id } in
    let tables = c.args.work.now.before.schema.description.tables in
    let columns : c.columns_at-columns.result.now ≡ columns_at tables c.args.table
    = c.columns_at-columns.ensures.value ∙ ap (λ (ts : List Table). columns_at ts c.args.table) (c.tables.ensures.all ∙ ap (λ (s : SchemaValue). s.description.tables) c.schema-schema.ensures.value) in
    let stands = c.schema-schema.ensures.rows p c.in-Some.row.now (sym c.in-Some.ensures.value) in
    record { of_table = row_kept tables c.args.commit p (option_copied c.row-before.result) c.in_ok-row-in-Ok.row c.in-Ok.columns stands.0 (rw (c.in-Ok.is, columns) at c.in_ok-columns.ensures.kept) c.in_ok-row-in-Ok.ensures.value }

pub returns-in_ok-set_row-in-Ok-clause-commit : goal.returns-in_ok-set_row-in-Ok-clause-commit
returns-in_ok-set_row-in-Ok-clause-commit c = λ k.
    let p : RowKey = record { table = c.args.table; id = c.args.id } in
    let tables = c.args.work.now.before.schema.description.tables in
    let columns : c.columns_at-columns.result.now ≡ columns_at tables c.args.table
    = c.columns_at-columns.ensures.value ∙ ap (λ (ts : List Table). columns_at ts c.args.table) (c.tables.ensures.all ∙ ap (λ (s : SchemaValue). s.description.tables) c.schema-schema.ensures.value) in
    let stands = c.schema-schema.ensures.rows p c.in-Some.row.now (sym c.in-Some.ensures.value) in
    let old = option_copied c.row-before.result in
    let at : IsRowAt tables p c.in_ok-row-in-Ok.row = row_kept tables c.args.commit p old c.in_ok-row-in-Ok.row c.in-Ok.columns stands.0 (rw (c.in-Ok.is, columns) at c.in_ok-columns.ensures.kept) c.in_ok-row-in-Ok.ensures.value in
    subst (λ (d : DraftValue). IsCommit tables c.args.work.now.before.rows d.rows c.args.commit) (sym c.in_ok-set_row-in-Ok.ensures.value)
    (row_commit tables c.args.commit c.args.work.now.before.rows c.args.work.now.rows p old c.in_ok-row-in-Ok.row c.in-Ok.columns (c.row-before.ensures.value ∙ ap (λ (d : DatabaseValue). get d.rows p) c.base.ensures.value) c.in_ok-row-in-Ok.ensures.value at k)
