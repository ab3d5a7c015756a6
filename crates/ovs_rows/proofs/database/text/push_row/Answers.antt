use Rattle.std.proofs.Common.{◌++◌, ap, ap₂, ◌∙◌, append_assoc, string_bytes}
use Rattle.serde_json.specs.Written.{compact_text}
use Rattle.ovs_types.specs.Id.{id_text}
use Rattle.ovs_rows.specs.ObjectText.{name_text}
use Rattle.ovs_rows.specs.Writing.{row_json}
use Rattle.ovs_rows.proofs.database.text.push_row.Goals as goal

pub returns-clause-text : goal.returns-clause-text
returns-clause-text c =
    let before = string_bytes c.args.text.now in
    let name = c.as_str.ensures.value ∙ c.in_ok-name.ensures.text ∙ ap id_text c.from.ensures in
    let row = c.as_str-2.ensures.value ∙ c.in_ok-row.ensures.text in
    c.in_ok-push_str.ensures.bytes
    ∙ ap₂ (λ x y. x ++ y) (c.in_ok-push_name.ensures.text ∙ ap (λ n. before ++ name_text c.args.later n) name) row
    ∙ append_assoc before (name_text c.args.later (id_text c.args.id)) (compact_text (row_json c.args.columns.now c.args.row.now))
