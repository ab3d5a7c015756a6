use Rattle.ovs_locks.proofs.Notes.{mark_written}
use Rattle.ovs_locks.proofs.by_session.set.Goals as goal

pub returns-in-Some-clause-note : goal.returns-in-Some-clause-note
returns-in-Some-clause-note c =
    mark_written c.args.name.now c.args.names.now (c.get_mut.follows.lender c.args.owed) c.in-Some.mark.now c.args.owed c.in-Some.ensures.value (c.get_mut.follows.holds c.args.owed)
