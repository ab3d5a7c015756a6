use Rattle.std.proofs.Common.{rules}
use Rattle.ovs_command_line.proofs.complaint.Complaint.status.Goals as goal

pub returns-in_default : goal.returns-in_default
returns-in_default c = search rules
