use Rattle.std.proofs.Common.{rules}
use Rattle.ovs_script.proofs.line_json.json_of_line.Goals as goal

pub returns-in_default : goal.returns-in_default
returns-in_default c = search rules
