use Rattle.std.proofs.Common.{rules}
use Rattle.ovs_script.proofs.refusal.SchemaRefusal.word.Goals as goal

pub returns-in-BadSchema : goal.returns-in-BadSchema
returns-in-BadSchema c = search rules
