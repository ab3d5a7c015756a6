use Rattle.std.proofs.Common.{rules}
use Rattle.ovs_json.proofs.json_value.Json.copy.Goals as goal

pub returns : goal.returns
returns c = search rules
