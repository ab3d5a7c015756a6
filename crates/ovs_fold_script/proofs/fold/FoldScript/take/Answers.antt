use Rattle.std.proofs.Common.{rules}
use Rattle.ovs_fold_script.proofs.fold.FoldScript.take.Goals as goal

pub returns : goal.returns
returns c = search rules
