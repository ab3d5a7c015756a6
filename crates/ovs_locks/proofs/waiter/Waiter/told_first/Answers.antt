use Rattle.std.proofs.Common.{rules}
use Rattle.ovs_locks.proofs.waiter.Waiter.told_first.Goals as goal

pub returns : goal.returns
returns c = search rules
