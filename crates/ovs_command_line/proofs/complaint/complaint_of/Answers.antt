use Rattle.std.proofs.Common.{rules}
use Rattle.ovs_command_line.proofs.complaint.complaint_of.Goals as goal

pub returns-in-WriteFault-clause-said : goal.returns-in-WriteFault-clause-said
returns-in-WriteFault-clause-said c = search rules
