use Rattle.std.proofs.Common.{◌≡◌, ℕ, suc, ◌+◌, ◌≤◌, length, ap, sym, ◌∙◌, arith}
use Rattle.std.specs.Prelude.{filter}
use Rattle.std.specs.FinMap.{entries}
use Rattle.ovs_rows.specs.Writing.{rows_in}
use Rattle.ovs_rows.proofs.TableRange.{is_between, one_table, no_table}
use Rattle.ovs_rows.proofs.database.Database.rows_of.Goals.{then-is_known, else-is_known}
use Rattle.ovs_rows.proofs.database.Database.rows_of.Goals as goal

pub returns : goal.returns
returns c =
    let table = c.args.table in
    let rows = c.self.inside.rows in
    let between : c.range.result ≡ filter (λ e. is_between table c.if-is_known.end e.0) (entries rows)
    = rw (c.first.ensures.value, c.first-2.ensures.value, c.as_map.ensures.value) at c.range.ensures.between tt in
    let whole : filter (λ e. is_between table c.if-is_known.end e.0) (entries rows) ≡ rows_in table rows
    = elim c.if-is_known.branch [
      | then-is_known w ↦
          let next : c.if-is_known.end ≡ suc table = omega (arith, w.end-is) in
          ap (λ end. filter (λ e. is_between table end e.0) (entries rows)) next ∙ one_table table rows
      | else-is_known w ↦
          let all : c.tables.result.now ≡ c.self.inside.schema.description.tables = c.tables.ensures.all in
          let beyond : length c.self.inside.schema.description.tables ≤ table = omega (arith, w.if-is_known.false, ap length all) in
          ap (λ end. filter (λ e. is_between table end e.0) (entries rows)) w.end-is
          ∙ no_table c.self.inside.schema.description.tables table rows c.self.invariant beyond
    ] in
    record { rows = between ∙ whole ∙ ap (λ d. rows_in table d.rows) c.self.view_is }
