use Rattle.std.proofs.Common.{◌≡◌, true, false, sym, ap, subst, ◌∙◌}
use Rattle.ovs_rows.specs.Change.{IsChangeOf}
use Rattle.ovs_links.specs.Store.{Stored, tables_of}
use Rattle.ovs_links.specs.declared.link.Link.{Link}
use Rattle.ovs_source.specs.Commits.{IsTaken}
use Rattle.ovs_source.proofs.source.Source.trim.Goals as goal

pub restart-requires-clause-not_taken : goal.restart-requires-clause-not_taken
restart-requires-clause-not_taken c taken =
    let id_is : c.in_ok-link.link.id ≡ c.args.id = ap (λ (l : Link). l.id) c.in_ok-link.ensures.value in
    let yes = c.is_taken.ensures.value.1 (subst (λ id. IsTaken c.args.self.now id) id_is taken) in
    let t : c.is_taken.result ≡ true = yes in
    absurd (let clash : false ≡ true = sym c.if-is_taken.false ∙ t in cc)

pub returns-clause-tables : goal.returns-clause-tables
returns-clause-tables c =
    let left = c.in_ok-restart.ensures.restarted in
    let made = c.in_ok-made.ensures.value in
    subst (λ (v : Stored). IsChangeOf (tables_of v) c.in_ok-made.made.change) (sym left.0)
    (subst (λ (l : Link). IsChangeOf (tables_of c.args.self.now) l.change) (sym made) c.in_ok-link.ensures.tables)
