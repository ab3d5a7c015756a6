use Rattle.std.proofs.lemmas.Result.{on_err_weaker}
use Rattle.ovs_locks.proofs.Notes.{session_unwritten}
use Rattle.ovs_locks.proofs.by_session.BySession.enter.Goals as goal

pub returns-in-Some-clause-unchanged : goal.returns-in-Some-clause-unchanged
returns-in-Some-clause-unchanged c =
    rw (← c.self.view_is) (on_err_weaker c.add.result (λ e. session_unwritten c.args.session c.self.inside.sessions (c.get_mut.follows.lender c.add.new.self) c.in-Some.names.now c.add.new.self c.in-Some.ensures.value (c.get_mut.follows.holds c.add.new.self) e) c.add.ensures.unchanged)
