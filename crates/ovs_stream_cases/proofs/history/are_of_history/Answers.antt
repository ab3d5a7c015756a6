use Rattle.std.proofs.Common.{◌≡◌, ◌+◌, ℕ, true, List, sym, ◌∙◌, ap, subst, rules, drop}
use Rattle.std.proofs.lemmas.List.{drop_all}
use Rattle.ovs_types.specs.Schema.{SchemaValue}
use Rattle.ovs_rows.specs.Database.{DatabaseValue}
use Rattle.ovs_rows.specs.Row.{Rows, AreRowsOf, no_rows}
use Rattle.ovs_rows.proofs.Laws.{no_rows_of}
use Rattle.ovs_links.specs.Sets.{IsOfTables}
use Rattle.ovs_links.specs.declared.link.Link.{Link}
use Rattle.ovs_stream_cases.specs.Made.{rows_behind, IsNext, AreMadeFrom}
use Rattle.ovs_stream_cases.proofs.MadeLinks.{made_history, made_next}
use Rattle.ovs_stream_cases.proofs.Places.{rest_of}
use Rattle.ovs_stream_cases.proofs.history.are_of_history.Goals as goal

pub loop-number-init : goal.loop-number-init
loop-number-init c =
    let tables = c.args.schema.now.description.tables in
    let new = c.in_ok-database.ensures.value in
    record {
      schema = ap (λ (d : DatabaseValue). d.schema) new;
      rows = subst (λ (d : DatabaseValue). AreRowsOf tables d.rows) (sym new) (no_rows_of tables);
      whole = λ made.
          subst (λ (head : ℕ). AreMadeFrom tables head no_rows c.args.links.now) c.zero-head.ensures.zero
          (subst (λ (d : DatabaseValue). AreMadeFrom tables c.zero-head.result d.rows c.args.links.now) new made);
    }

pub leads_on-requires-clause-tables : goal.leads_on-requires-clause-tables
leads_on-requires-clause-tables c =
    let l : Link = c.index-links-number.result in
    subst (λ (s : SchemaValue). IsOfTables s.description.tables l) (sym c.loop-number.invariant.schema)
    (subst (IsOfTables c.args.schema.now.description.tables) (sym c.index-links-number.is) (c.requires.tables c.loop-number.number l c.loop-number-test.true))

pub leads_on-requires-clause-rows : goal.leads_on-requires-clause-rows
leads_on-requires-clause-rows c =
    subst (λ (s : SchemaValue). AreRowsOf s.description.tables c.loop-number.database.rows) (sym c.loop-number.invariant.schema) c.loop-number.invariant.rows

pub loop-number-preserved : goal.loop-number-preserved
loop-number-preserved c =
    let tables = c.args.schema.now.description.tables in
    let rows = c.loop-number.database.rows in
    let now = c.leads_on.new.database.rows in
    let ls = c.args.links.now in
    let k = c.loop-number.number in
    let l : Link = c.index-links-number.result in
    let leads : c.in_ok-leads_on.field-0 ≡ true = search rules in
    let next : IsNext tables c.loop-number.head rows l (drop (k + 1) ls) =
    subst (λ (s : SchemaValue). IsNext s.description.tables c.loop-number.head rows l (drop (k + 1) ls)) c.loop-number.invariant.schema
    (subst (IsNext c.loop-number.database.schema.description.tables c.loop-number.head rows l) (rest_of ls (k + 1)) (c.in_ok-leads_on.ensures.next leads)) in
    let moved : now ≡ rows_behind tables rows l =
    subst (λ (s : SchemaValue). now ≡ rows_behind s.description.tables rows l) c.loop-number.invariant.schema (c.in_ok-leads_on.ensures.rows leads) in
    record {
      schema = c.in_ok-leads_on.ensures.schema ∙ c.loop-number.invariant.schema;
      rows = subst (AreRowsOf tables) (sym moved) next.commit.after;
      whole = λ made.
          made_next tables c.loop-number.head rows now ls k l (AreMadeFrom tables 0 no_rows ls) c.loop-number-test.true c.index-links-number.is next moved c.loop-number.invariant.whole
          (subst (λ (head : ℕ). AreMadeFrom tables head now (drop (k + 1) ls)) c.id-head.ensures.value made);
    }

pub returns : goal.returns
returns c =
    let tables = c.args.schema.now.description.tables in
    let ls = c.args.links.now in
    let none = drop_all c.loop-number.number ls c.loop-number-test.false in
    record {
      made = λ same. made_history tables ls (c.loop-number.invariant.whole
          (subst (AreMadeFrom tables c.loop-number.head c.loop-number.database.rows) (sym none) tt));
    }
