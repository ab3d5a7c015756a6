use Rattle.std.proofs.Common.{List, ℕ, ◌≡◌, Some, true, false, sym, ◌∙◌, ap, subst}
use Rattle.std.specs.BTreeMap.{is_at}
use Rattle.std.specs.Cmp.Lexicographic.{slice_cmp}
use Rattle.std.specs.Map.{lookup, set_value, remove_entry}
use Rattle.std.specs.Ordering.{nat_cmp}
use Rattle.ovs_locks.specs.Lock.{LockValue, no_lock, without, is_idle}
use Rattle.ovs_locks.specs.LockTable.{Locks, lock_at, NoneIdle}
use Rattle.ovs_locks.proofs.ByName.{change_gone, change_none_idle, none_idle_set}
use Rattle.ovs_locks.proofs.Tables.{written, then_gone, becomes_none, lent_is}
use Rattle.ovs_locks.proofs.lock_map.LockMap.leave.Goals as goal

-- a lock that is idle then was taken out
gone : (name : List ℕ) (f : LockValue → LockValue) (es written new : Locks) (l w : LockValue) → NoneIdle es
    → lookup (is_at (slice_cmp nat_cmp name)) es ≡ Some l → w ≡ f l → is_idle (f l) ≡ true
    → written ≡ set_value (is_at (slice_cmp nat_cmp name)) es w → new ≡ remove_entry (is_at (slice_cmp nat_cmp name)) written → NoneIdle new
gone name f es written new l w none there is idle wrote out =
    subst NoneIdle (sym (out ∙ ap (remove_entry (is_at (slice_cmp nat_cmp name))) wrote))
    (change_none_idle is_idle no_lock name f es (remove_entry (is_at (slice_cmp nat_cmp name)) (set_value (is_at (slice_cmp nat_cmp name)) es w)) none
    (change_gone is_idle no_lock name f es none l w there is idle))

pub invariant_of-self : goal.invariant_of-self
invariant_of-self c =
    let name = c.args.name.now in
    let es = c.self.inside.locks.entries in
    let tree = c.get_mut.follows.lender c.leave.new.self in
    let idle : is_idle (without c.args.session c.in-Some.lock.now) ≡ true = ap is_idle (sym c.leave.ensures.value) ∙ sym c.if-is_idle.ensures.value in (
      c.take_out.ensures.ordered,
      gone name (without c.args.session) es tree.entries c.take_out.new.locks.entries c.in-Some.lock.now c.leave.new.self c.self.invariant.1 (sym c.in-Some.ensures.value) c.leave.ensures.value idle
          (c.get_mut.follows.holds c.leave.new.self).0 c.take_out.ensures.entries,
    )

pub invariant_of-self-else-is_idle : goal.invariant_of-self-else-is_idle
invariant_of-self-else-is_idle c =
    let name = c.args.name.now in
    let es = c.self.inside.locks.entries in
    let busy : is_idle c.leave.new.self ≡ false = sym c.is_idle.ensures.value ∙ c.if-is_idle.false in (
      (c.get_mut.follows.holds c.leave.new.self).4,
      subst NoneIdle (sym (c.get_mut.follows.holds c.leave.new.self).0) (none_idle_set is_idle (is_at (slice_cmp nat_cmp name)) c.leave.new.self es busy c.self.invariant.1),
    )

pub returns-then-is_idle-clause-after : goal.returns-then-is_idle-clause-after
returns-then-is_idle-clause-after c =
    rw (← c.self.view_is) (
    let at = written c.args.name.now c.in-Some.lock.now c.leave.new.self (without c.args.session) c.self.inside.locks (c.get_mut.follows.lender c.leave.new.self) c.in-Some.ensures.value (c.get_mut.follows.holds c.leave.new.self) c.leave.ensures.value in
    then_gone c.args.name.now (without c.args.session (lock_at c.args.name.now c.self.inside.locks.entries)) c.self.inside.locks.entries (c.get_mut.follows.lender c.leave.new.self).entries c.take_out.new.locks.entries at (ap (λ l. is_idle (without c.args.session l)) (lent_is c.args.name.now c.in-Some.lock.now c.self.inside.locks c.in-Some.ensures.value) ∙ ap is_idle (sym c.leave.ensures.value) ∙ sym c.if-is_idle.ensures.value)
    (becomes_none c.args.name.now (c.get_mut.follows.lender c.leave.new.self) c.take_out.new.locks c.take_out.ensures.updates))

pub returns-else-is_idle-clause-after : goal.returns-else-is_idle-clause-after
returns-else-is_idle-clause-after c = rw (← c.self.view_is) (written c.args.name.now c.in-Some.lock.now c.leave.new.self (without c.args.session) c.self.inside.locks (c.get_mut.follows.lender c.leave.new.self) c.in-Some.ensures.value (c.get_mut.follows.holds c.leave.new.self) c.leave.ensures.value)

pub returns-then-is_idle-clause-none_idle : goal.returns-then-is_idle-clause-none_idle
returns-then-is_idle-clause-none_idle c =
    let name = c.args.name.now in
    let es = c.self.inside.locks.entries in
    let tree = c.get_mut.follows.lender c.leave.new.self in
    let idle : is_idle (without c.args.session c.in-Some.lock.now) ≡ true = ap is_idle (sym c.leave.ensures.value) ∙ sym c.if-is_idle.ensures.value in
    gone name (without c.args.session) es tree.entries c.take_out.new.locks.entries c.in-Some.lock.now c.leave.new.self c.self.invariant.1 (sym c.in-Some.ensures.value) c.leave.ensures.value idle
    (c.get_mut.follows.holds c.leave.new.self).0 c.take_out.ensures.entries

pub returns-else-is_idle-clause-none_idle : goal.returns-else-is_idle-clause-none_idle
returns-else-is_idle-clause-none_idle c =
    let busy : is_idle c.leave.new.self ≡ false = sym c.is_idle.ensures.value ∙ c.if-is_idle.false in
    subst NoneIdle (sym (c.get_mut.follows.holds c.leave.new.self).0) (none_idle_set is_idle (is_at (slice_cmp nat_cmp c.args.name.now)) c.leave.new.self c.self.inside.locks.entries busy c.self.invariant.1)
