use Rattle.std.proofs.Common.{refl, ◌∙◌}
use Rattle.ovs_locks.specs.Lock.{no_lock, mark, stands}
use Rattle.ovs_locks.proofs.Listed.{counted}
use Rattle.ovs_locks.proofs.Moves.{marked_stands}
use Rattle.ovs_locks.proofs.lock_table.LockTable.count.Goals as goal

pub returns : goal.returns
returns c =
    let session = c.args.session in
    rw (← c.self.view_is) (record {
      value = c.count.ensures.value ∙ counted (mark session) no_lock refl (stands session) (marked_stands session) c.self.inside.locks _ c.self.invariant.0 c.count.ensures.ascend (c.self.invariant.2 session);
    })
