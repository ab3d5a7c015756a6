use Rattle.std.proofs.Common.{◌≡◌, rules, sym, subst}
use Rattle.ovs_rows.specs.Change.{IsChangeOf}
use Rattle.ovs_rows.specs.Row.{no_rows}
use Rattle.ovs_rows.proofs.Laws.{difference_of_tables, no_rows_of}
use Rattle.ovs_links.specs.Store.{tables_of, rows_of}
use Rattle.ovs_links.specs.declared.link.Link.{Link}
use Rattle.ovs_source.specs.Trimming.{renewing}
use Rattle.ovs_source.proofs.Histories.{rows_of_its_tables}
use Rattle.ovs_source.proofs.source.Source.renewing_link.Goals as goal

pub returns-clause-tables : goal.returns-clause-tables
returns-clause-tables c =
    let s = c.args.self.now in
    let source = c.store.ensures.source in
    let is : c.in-Ok.link ≡ renewing s c.args.id = search rules in
    subst (λ (l : Link). IsChangeOf (tables_of s) l.change) (sym is)
    (difference_of_tables (tables_of s) no_rows (rows_of s) (no_rows_of (tables_of s)) (rows_of_its_tables s source.history source.is))
