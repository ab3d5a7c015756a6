use Rattle.std.proofs.Common.{rules}
use Rattle.ovs_json.proofs.parts.all_three_of.Goals as goal

pub returns-in-len3 : goal.returns-in-len3
returns-in-len3 c = search rules
