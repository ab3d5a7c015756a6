use Rattle.ovs_script.proofs.Sent.{nothing_sent}
use Rattle.ovs_script.proofs.run.give_up.Goals as goal

pub returns-in-WriteFault-clause-begun : goal.returns-in-WriteFault-clause-begun
returns-in-WriteFault-clause-begun g c = nothing_sent (g.W.Write.contents c.args.writer.now.device) c.args.pending.now
