use Rattle.std.proofs.Common.{Some, false}
use Rattle.ovs_locks.proofs.Notes.{updated}
use Rattle.ovs_locks.proofs.by_session.Names.add.Goals as goal

pub returns-clause-note : goal.returns-clause-note
returns-clause-note c = rw (← c.self.view_is) (rw c.in_ok-copy.ensures.equal at (updated c.in_ok-copy.field-0 c.self.inside.names c.insert.new.self (Some false) c.in_ok-insert.ensures.updates))
