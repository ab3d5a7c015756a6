use Rattle.std.proofs.Common.{rules}
use Rattle.ovs_locks.proofs.waiter.Waiter.robbed.Goals as goal

pub returns : goal.returns
returns c = search rules
