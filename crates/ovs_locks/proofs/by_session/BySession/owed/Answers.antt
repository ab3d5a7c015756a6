use Rattle.ovs_locks.proofs.Notes.{none_ascend}
use Rattle.ovs_locks.proofs.by_session.BySession.owed.Goals as goal

pub returns-in_err-names-clause-ascend : goal.returns-in_err-names-clause-ascend
returns-in_err-names-clause-ascend c = rw (← c.self.view_is) (none_ascend c.args.session c.self.inside.sessions.entries c.in_err-names.ensures.value)
