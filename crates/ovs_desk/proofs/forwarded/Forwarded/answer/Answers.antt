use Rattle.std.proofs.Common.{rules}
use Rattle.ovs_desk.proofs.forwarded.Forwarded.answer.Goals as goal

pub returns : goal.returns
returns c = search rules
