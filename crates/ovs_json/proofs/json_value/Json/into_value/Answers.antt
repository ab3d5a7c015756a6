use Rattle.std.proofs.Common.{rules}
use Rattle.ovs_json.proofs.json_value.Json.into_value.Goals as goal

pub returns : goal.returns
returns c = search rules
