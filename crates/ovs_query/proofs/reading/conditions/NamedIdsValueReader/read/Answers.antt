use Rattle.std.proofs.Common.{rules}
use Rattle.ovs_query.proofs.reading.conditions.NamedIdsValueReader.read.Goals as goal

pub returns-in-Err-UnknownName : goal.returns-in-Err-UnknownName
returns-in-Err-UnknownName c = search rules
