use Rattle.std.proofs.Common.{sym, subst}
use Rattle.ovs_lock_desk.specs.LockDesk.{NoneIdle}
use Rattle.ovs_locks.proofs.ByName.{none_idle_put}
use Rattle.ovs_lock_desk.specs.RelayLock.{is_desk_idle}
use Rattle.ovs_lock_desk.proofs.desk_table.DeskTable.add.Goals as goal

pub invariant_of-self-2 : goal.invariant_of-self-2
invariant_of-self-2 c =
    (c.insert.ensures.ordered, subst NoneIdle (sym c.in_ok-insert.ensures.entries) (none_idle_put is_desk_idle c.in_ok-copy.field-0 c.args.lock c.self.inside.locks.entries c.requires.busy c.self.invariant.1))

pub returns-clause-table : goal.returns-clause-table
returns-clause-table c = record {
  ascend = c.insert.ensures.ordered;
  none_idle = subst NoneIdle (sym c.in_ok-insert.ensures.entries) (none_idle_put is_desk_idle c.in_ok-copy.field-0 c.args.lock c.self.inside.locks.entries c.requires.busy c.self.invariant.1);
}
