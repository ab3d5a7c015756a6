use Rattle.std.proofs.Common.{rules}
use Rattle.ovs_types.proofs.schema.error.SchemaError.word.Goals as goal

pub returns-in-Real : goal.returns-in-Real
returns-in-Real c = search rules
