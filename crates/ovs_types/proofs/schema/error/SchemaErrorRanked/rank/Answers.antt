use Rattle.std.proofs.Common.{rules}
use Rattle.ovs_types.proofs.schema.error.SchemaErrorRanked.rank.Goals as goal

pub returns-in-BadId : goal.returns-in-BadId
returns-in-BadId c = search rules
