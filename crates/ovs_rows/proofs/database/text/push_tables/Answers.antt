use Rattle.std.proofs.Common.{◌≡◌, ◌+◌, ◌∷◌, [], ◌++◌, drop, false, ap, ◌∙◌, map, append_assoc, string_bytes}
use Rattle.std.specs.List.{enumerate_from}
use Rattle.std.proofs.Math.ListN.{drop_of_length-le}
use Rattle.serde_json.specs.Written.{compact_text}
use Rattle.ovs_rows.specs.ObjectText.{name_text, listed_text}
use Rattle.ovs_rows.specs.Writing.{table_json, table_member}
use Rattle.ovs_rows.proofs.ObjectTexts.{text_next, text_end, tables_text}
use Rattle.ovs_rows.proofs.PlacingSteps.{drop-at}
use Rattle.ovs_rows.proofs.database.text.push_tables.Goals as goal

pub loop-number-init : goal.loop-number-init
loop-number-init c =
    let all = listed_text false (map (table_member c.args.rows.now) (enumerate_from 0 c.args.tables.now)) in
    ap (λ t. t ++ all) c.in_ok-push_str.ensures.bytes ∙ append_assoc (string_bytes c.args.text.now) (123 ∷ []) all

pub loop-number-preserved : goal.loop-number-preserved
loop-number-preserved c =
    let at = c.loop-number in
    let rows = c.args.rows.now in
    let table = c.index-tables-number.result in
    let text = compact_text (table_json rows (at.number, table)) in
    text_next (table_member rows) _ (string_bytes at.text) at.later (enumerate_from at.number (drop at.number c.args.tables.now)) at.invariant
    (at.number, table) (enumerate_from (at.number + 1) (drop (at.number + 1) c.args.tables.now)) _
    (ap (enumerate_from at.number) (drop-at c.args.tables.now at.number table c.loop-number-test.true c.index-tables-number.is))
    (c.in_ok-push_table.ensures.text
    ∙ ap (λ l. l ++ text) (c.in_ok-push_name.ensures.text ∙ ap (λ n. string_bytes at.text ++ name_text at.later n) c.as_str.ensures.value)
    ∙ append_assoc (string_bytes at.text) (name_text at.later table.name) text)

pub returns : goal.returns
returns c =
    let at = c.loop-number in
    let tables = c.args.tables.now in
    let rows = c.args.rows.now in
    let none = ap (enumerate_from at.number) (drop_of_length-le tables c.loop-number-test.false) in
    record {
      text = text_end (table_member rows) _ (string_bytes at.text) at.later (enumerate_from at.number (drop at.number tables)) at.invariant _ none c.in_ok-push_str-2.ensures.bytes
          ∙ ap (λ l. string_bytes c.args.text.now ++ l) (tables_text rows tables c.requires.ascending);
    }
