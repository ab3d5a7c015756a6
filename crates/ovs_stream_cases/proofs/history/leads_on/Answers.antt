use Rattle.std.proofs.Common.{◌≡◌, ◌==◌, ℕ, true, false, sym, ◌∙◌, ap, subst, rules, arith}
use Rattle.std.proofs.lemmas.Bool.Decides.{nat_tests}
use Rattle.std.specs.List.{list_any}
use Rattle.ovs_rows.specs.Database.{DatabaseValue}
use Rattle.ovs_rows.specs.DatabaseDifference.{database_difference}
use Rattle.ovs_links.specs.declared.link.Link.{Link}
use Rattle.ovs_stream_cases.specs.Made.{rows_behind}
use Rattle.ovs_stream_cases.proofs.MadeLinks.{next_by}
use Rattle.ovs_stream_cases.proofs.history.leads_on.Goals as goal

pub returns-clause-next : goal.returns-clause-next
returns-clause-next c same =
    let tables = c.args.database.now.schema.description.tables in
    let rows = c.args.database.now.rows in
    let now = c.carry_out.new.database.rows in
    let l : Link = c.args.link.now in
    let prev : l.prev ≡ c.args.head = grind (arith, nat_tests, c.prev.ensures.value, c.if-ne.ensures) in
    let alone : list_any (λ (m : Link). m.id == l.id) c.args.later.now ≡ false =
    subst (λ (id : ℕ). list_any (λ (m : Link). m.id == id) c.args.later.now ≡ false) c.id.ensures.value (sym c.if-has_id.ensures.value) in
    let carried : c.in_ok-carry_out.field-0 ≡ true = search rules in
    let moved : now ≡ rows_behind tables rows l = c.in_ok-carry_out.ensures.rows carried in
    let made = c.in_ok-difference.ensures.value
    ∙ ap (λ (d : DatabaseValue). database_difference d.schema.description.tables d.rows now) c.in_ok-before.ensures.equal in
    next_by tables c.args.head rows now l c.args.later.now c.in_ok-difference.difference prev c.prev.ensures.ends.0 alone c.requires.rows c.requires.tables
    moved made (c.same.ensures.value.0 same ∙ c.change.ensures.value)
