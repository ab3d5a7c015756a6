use Rattle.std.proofs.Common.{rules}
use Rattle.ovs_data.proofs.error.DatumError.word.Goals as goal

pub returns-in-WrongShape : goal.returns-in-WrongShape
returns-in-WrongShape c = search rules
