use Rattle.std.proofs.Common.{◌<◌, ◌^◌, ◌∷◌, [], ◌++◌, false, ap, ap₂, subst, ◌∙◌, map, append_assoc, string_bytes}
use Rattle.ovs_types.specs.Id.{id_text}
use Rattle.ovs_rows.specs.ObjectText.{member_text, listed_text}
use Rattle.ovs_rows.specs.Writing.{row_json, row_member, rows_in}
use Rattle.ovs_rows.proofs.ObjectTexts.{HaveIds, text_next, text_end, ids_next, ids_end, table_text}
use Rattle.ovs_rows.proofs.Writings.{rows_between}
use Rattle.ovs_rows.proofs.database.text.push_table.Goals as goal

pub loop-place-init : goal.loop-place-init
loop-place-init c =
    let items = rows_between c.args.number c.args.rows.now c.into_iter-place-iterator.result _
    (c.into_iter-place-iterator.ensures.into_iter_gives ∙ rw (c.first.ensures.value, c.first-2.ensures.value) at (c.range-place-items.ensures.between tt)) c.as_map.ensures.value in
    record {
      whole = ap₂ (λ t es. t ++ listed_text false (map (row_member c.args.table.now.columns) es)) c.in_ok-push_str.ensures.bytes items
          ∙ append_assoc (string_bytes c.args.text.now) (123 ∷ []) (listed_text false (map (row_member c.args.table.now.columns) (rows_in c.args.number c.args.rows.now)));
      ids = λ ids. subst HaveIds items ids;
    }

pub loop-place-preserved : goal.loop-place-preserved
loop-place-preserved c =
    let at = c.loop-place in
    let columns = c.args.table.now.columns in
    let place = c.in-Some.place.now in
    let row = c.in-Some.row.now in
    record {
      whole = text_next (row_member columns) _ (string_bytes at.text) at.later at.place-iterator at.invariant.whole (place, row) c.next.new.self _ c.in-Some.ensures.steps
          (c.in_ok-push_row.ensures.text
          ∙ ap₂ (λ id m. string_bytes at.text ++ member_text at.later (id_text id, m)) c.from-id.ensures
          (ap₂ row_json c.as_slice.ensures.all c.row.ensures.value));
      ids = ids_next place row at.place-iterator c.next.new.self _ (subst (λ id. id < 2 ^ 128) c.from-id.ensures c.in_ok-push_row.ensures.fits) c.in-Some.ensures.steps at.invariant.ids;
    }

pub returns : goal.returns
returns c =
    let at = c.loop-place in
    let columns = c.args.table.now.columns in
    let none = c.in-None.ensures.steps.0 in
    let ids = ids_end at.place-iterator (HaveIds (rows_in c.args.number c.args.rows.now)) none at.invariant.ids in
    record {
      text = text_end (row_member columns) _ (string_bytes at.text) at.later at.place-iterator at.invariant.whole _ none c.in_ok-push_str-2.ensures.bytes
          ∙ ap (λ l. string_bytes c.args.text.now ++ l) (table_text c.args.number c.args.table.now c.args.rows.now ids);
    }
