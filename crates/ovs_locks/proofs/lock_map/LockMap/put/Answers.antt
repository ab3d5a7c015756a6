use Rattle.std.proofs.Common.{sym, subst}
use Rattle.ovs_locks.specs.Lock.{is_idle}
use Rattle.ovs_locks.specs.LockTable.{NoneIdle}
use Rattle.ovs_locks.proofs.ByName.{none_idle_put}
use Rattle.ovs_locks.proofs.Tables.{becomes}
use Rattle.ovs_locks.proofs.lock_map.LockMap.put.Goals as goal

pub invariant_of-self-2 : goal.invariant_of-self-2
invariant_of-self-2 c =
    (c.insert.ensures.ordered, subst NoneIdle (sym c.in_ok-insert.ensures.entries) (none_idle_put is_idle c.in_ok-copy.field-0 c.args.lock c.self.inside.locks.entries c.requires.busy c.self.invariant.1))

pub returns-clause-value : goal.returns-clause-value
returns-clause-value c = rw (← c.self.view_is) (rw c.in_ok-copy.ensures.equal at (becomes c.in_ok-copy.field-0 c.args.lock c.self.inside.locks c.insert.new.self c.in_ok-insert.ensures.updates))

pub returns-clause-none_idle : goal.returns-clause-none_idle
returns-clause-none_idle c = subst NoneIdle (sym c.in_ok-insert.ensures.entries) (none_idle_put is_idle c.in_ok-copy.field-0 c.args.lock c.self.inside.locks.entries c.requires.busy c.self.invariant.1)
