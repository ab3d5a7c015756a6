use Rattle.std.proofs.Common.{ap, ◌∙◌}
use Rattle.serde_json.specs.Written.{has_float, compact_text}
use Rattle.ovs_rows.proofs.Writings.{row_no_float}
use Rattle.ovs_rows.proofs.database.text.row_text.Goals as goal

pub returns : goal.returns
returns c =
    let is = c.in_ok-value.ensures.value in
    record { text = c.in_ok-to_string.ensures.text (ap has_float is ∙ row_no_float c.args.columns.now c.args.row.now) ∙ ap compact_text is }
