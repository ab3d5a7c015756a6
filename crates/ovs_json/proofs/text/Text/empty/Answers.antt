use Rattle.std.proofs.Common.{rules}
use Rattle.ovs_json.proofs.text.Text.empty.Goals as goal

pub returns : goal.returns
returns c = search rules
