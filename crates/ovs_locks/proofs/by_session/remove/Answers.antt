use Rattle.ovs_locks.proofs.Notes.{updated}
use Rattle.std.proofs.Common.{None}
use Rattle.ovs_locks.proofs.by_session.remove.Goals as goal

pub returns-clause-note : goal.returns-clause-note
returns-clause-note c = updated c.args.name.now c.args.names.now c.remove.new.self None c.remove.ensures.updates
