use Rattle.std.proofs.Common.{[], refl}
use Rattle.ovs_locks.proofs.Notes.{none_ascend}
use Rattle.ovs_lock_desk.proofs.open_requests.OpenRequests.names.Goals as goal

pub returns-in-None-clause-ascend : goal.returns-in-None-clause-ascend
returns-in-None-clause-ascend c = rw (← c.self.view_is) (rw c.in-None.is (none_ascend c.args.number [] refl))
