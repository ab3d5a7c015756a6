use Rattle.ovs_lock_desk.proofs.lock_desk.LockDesk.answered.Goals as goal

pub answered-requires : goal.answered-requires
answered-requires c = record { named = c.self.invariant.1; marked = c.self.invariant.2 }

pub invariant_of-self : goal.invariant_of-self
invariant_of-self c = (c.answered.ensures.table, c.answered.ensures.named, c.answered.ensures.marked)
