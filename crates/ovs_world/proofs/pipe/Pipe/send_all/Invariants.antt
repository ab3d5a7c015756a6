use Rattle.std.proofs.Common.{drop}
use Rattle.ovs_world.specs.Carrying.{Line, SendsAll}
use Rattle.ovs_world.proofs.pipe.Pipe.send_all.Given as goal

-- where the messages that are left lead, all of them lead
abbrev pub invariant-loop-message : goal.invariant-loop-message
invariant-loop-message l = (new : Line) → SendsAll l.self (drop l.message-index l.messages) new → SendsAll l.fn.self l.messages new
