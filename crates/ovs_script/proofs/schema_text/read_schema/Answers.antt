use Rattle.std.proofs.Common.{◌≡◌, Err}
use Rattle.ovs_script.specs.declared.run_end.RunEnd.TheVariants.{Refused}
use Rattle.ovs_script.proofs.SchemaTexts.{refusal_met}
use Rattle.ovs_script.proofs.schema_text.read_schema.Goals as goal

pub returns-in-Ok-Err-clause-refused : goal.returns-in-Ok-Err-clause-refused
returns-in-Ok-Err-clause-refused g c refused =
    let told : c.tell_refusal.result ≡ Refused = (cc) in
    let answer : c.in-Ok-Err.field-0 ≡ Err c.in-Ok-Err.refusal = (cc) in
    refusal_met (g.R.Read.remaining c.args.reader.now.device) c.in-Ok-Err.field-0 c.in-Ok-Err.refusal _ _ answer c.in-Ok-Err.ensures.value (c.tell_refusal.ensures.told told)
