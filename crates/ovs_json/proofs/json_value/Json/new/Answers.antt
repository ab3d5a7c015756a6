use Rattle.std.proofs.Common.{rules}
use Rattle.ovs_json.proofs.json_value.Json.new.Goals as goal

pub returns : goal.returns
returns c = search rules
