use Rattle.ovs_locks.proofs.Notes.{none_ascend}
use Rattle.ovs_locks.proofs.by_session.BySession.count.Goals as goal

pub returns-in-None-clause-ascend : goal.returns-in-None-clause-ascend
returns-in-None-clause-ascend c = rw (← c.self.view_is) (none_ascend c.args.session c.self.inside.sessions.entries c.in-None.ensures.value)
