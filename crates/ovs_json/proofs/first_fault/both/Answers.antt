use Rattle.std.proofs.Common.{rules}
use Rattle.ovs_json.proofs.first_fault.both.Goals as goal

pub returns : goal.returns
returns c = search rules
