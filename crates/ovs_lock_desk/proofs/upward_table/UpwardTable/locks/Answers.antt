use Rattle.std.proofs.Common.{subst}
use Rattle.ovs_lock_desk.specs.UpwardTable.{AreStolenByOne}
use Rattle.ovs_lock_desk.proofs.upward_table.UpwardTable.locks.Goals as goal

pub returns-clause-by_one : goal.returns-clause-by_one
returns-clause-by_one c = subst AreStolenByOne c.self.view_is c.self.invariant.by_one
