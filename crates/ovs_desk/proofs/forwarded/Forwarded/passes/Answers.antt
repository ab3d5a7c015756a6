use Rattle.std.proofs.Common.{rules}
use Rattle.ovs_desk.proofs.forwarded.Forwarded.passes.Goals as goal

pub returns-in-ToGo : goal.returns-in-ToGo
returns-in-ToGo c = search rules
