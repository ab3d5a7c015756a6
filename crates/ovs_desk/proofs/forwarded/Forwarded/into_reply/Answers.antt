use Rattle.std.proofs.Common.{rules}
use Rattle.ovs_desk.proofs.forwarded.Forwarded.into_reply.Goals as goal

pub returns-in-Answered : goal.returns-in-Answered
returns-in-Answered c = search rules
