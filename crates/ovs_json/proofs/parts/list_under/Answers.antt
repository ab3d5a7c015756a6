use Rattle.std.proofs.Common.{rules}
use Rattle.ovs_json.proofs.parts.list_under.Goals as goal

pub returns : goal.returns
returns c = search rules
