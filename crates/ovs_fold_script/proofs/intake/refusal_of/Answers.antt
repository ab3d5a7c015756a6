use Rattle.std.proofs.Common.{rules}
use Rattle.ovs_fold_script.proofs.intake.refusal_of.Goals as goal

pub returns-in-Fork : goal.returns-in-Fork
returns-in-Fork c = search rules
