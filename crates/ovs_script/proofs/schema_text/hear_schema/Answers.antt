use Rattle.std.proofs.Common.{◌≡◌, ◌∙◌, ap, true}
use Rattle.ovs_script.specs.FirstLine.{schema_of_line}
use Rattle.ovs_script.proofs.SchemaTexts.{line_met}
use Rattle.ovs_script.proofs.schema_text.hear_schema.Goals as goal

pub returns-then-branch-clause-value : goal.returns-then-branch-clause-value
returns-then-branch-clause-value g c =
    let found : c.in_ok-next_line.field-0 ≡ true = (cc) in
    line_met c.in_ok-window.window c.in_ok-window.ensures.empty (g.R.Read.remaining c.args.reader.now.device) _ c.next_line.new.line
    (rw found at c.in_ok-next_line.ensures.line) c.in_ok-schema_of_line.field-0 (c.in_ok-schema_of_line.ensures.value ∙ ap schema_of_line c.bytes.ensures.value)
