use Rattle.std.proofs.Common.{rules}
use Rattle.ovs_fold_script.proofs.fold.Fold.take_schema.Goals as goal

pub returns-in_ok-line-in-Err-clause-after : goal.returns-in_ok-line-in-Err-clause-after
returns-in_ok-line-in-Err-clause-after c = search rules
