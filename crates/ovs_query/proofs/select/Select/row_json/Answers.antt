use Rattle.std.proofs.Common.{[], ◌∷◌, ◌++◌, Some, None, sym, ap, ◌∙◌}
use Rattle.serde_json.specs.View.{items_view, items_of}
use Rattle.ovs_query.proofs.OneRow.{row_left}
use Rattle.ovs_query.proofs.select.Select.row_json.Goals as goal

pub returns-in_ok-push-in-Some : goal.returns-in_ok-push-in-Some
returns-in_ok-push-in-Some c = record {
  value = ap items_view (c.in_ok-push-in-Some.ensures.items ∙ ap (λ xs. xs ++ c.in_ok-shown_json-in-Some.field-0 ∷ []) c.new-found.ensures.items)
      ∙ ap (λ d. items_of (d ∷ [])) (rw c.as_slice.ensures.value at c.in_ok-shown_json-in-Some.ensures.value)
      ∙ sym (ap items_of (row_left c.args.self.now c.args.id c.args.draft.now.rows (Some c.in-Some.row.now) c.requires.alone c.in-Some.ensures.value));
}

pub returns-in-None : goal.returns-in-None
returns-in-None c = record {
  value = ap items_view c.new-found.ensures.items ∙ sym (ap items_of (row_left c.args.self.now c.args.id c.args.draft.now.rows None c.requires.alone c.in-None.ensures.value));
}
