use Rattle.std.proofs.Common.{rules}
use Rattle.ovs_world.proofs.world.World.happen.Goals as goal

pub returns-in_err-merge-in-MergeFrom-clause-steps : goal.returns-in_err-merge-in-MergeFrom-clause-steps
returns-in_err-merge-in-MergeFrom-clause-steps c = search rules

pub returns-in_ok-merge-in-MergeFrom-clause-steps : goal.returns-in_ok-merge-in-MergeFrom-clause-steps
returns-in_ok-merge-in-MergeFrom-clause-steps c = search rules
