use Rattle.std.proofs.Common.{rules}
use Rattle.ovs_script.proofs.refusal.SchemaRefusal.line.Goals as goal

pub returns : goal.returns
returns c = search rules
