use Rattle.std.proofs.Common.{List, ℕ, ◌≡◌, ◌∙◌, Some, None, true, false, refl, sym, ap, subst}
use Rattle.std.specs.BTreeMap.{is_at}
use Rattle.std.specs.Cmp.Lexicographic.{slice_cmp}
use Rattle.std.specs.Map.{lookup, set_value, remove_entry}
use Rattle.std.specs.Ordering.{nat_cmp}
use Rattle.ovs_lock_desk.specs.RelayLock.{RelayLockValue, no_relay_lock, is_desk_idle, step}
use Rattle.ovs_lock_desk.specs.LockDesk.{RelayLocks, ChangesAt, NoneIdle}
use Rattle.ovs_locks.proofs.ByName.{change_written, change_gone, change_none, change_none_idle}
use Rattle.ovs_lock_desk.proofs.DeskTables.{still_idle}
use Rattle.ovs_lock_desk.proofs.desk_table.DeskTable.at.Goals as goal

gone_by : {name : List ℕ} (f : RelayLockValue → RelayLockValue) (es written new : RelayLocks) (l w : RelayLockValue) → NoneIdle es
    → lookup (is_at (slice_cmp nat_cmp name)) es ≡ Some l → w ≡ f l → is_desk_idle (f l) ≡ true
    → written ≡ set_value (is_at (slice_cmp nat_cmp name)) es w → new ≡ remove_entry (is_at (slice_cmp nat_cmp name)) written → ChangesAt name f es new
gone_by {name} f es written new l w none there is idle wrote out =
    subst (ChangesAt name f es) (sym (out ∙ ap (remove_entry (is_at (slice_cmp nat_cmp name))) wrote)) (change_gone is_desk_idle no_relay_lock name f es none l w there is idle)

written_by : {name : List ℕ} (f : RelayLockValue → RelayLockValue) (es written : RelayLocks) (l w : RelayLockValue) → NoneIdle es
    → lookup (is_at (slice_cmp nat_cmp name)) es ≡ Some l → w ≡ f l → is_desk_idle (f l) ≡ false
    → written ≡ set_value (is_at (slice_cmp nat_cmp name)) es w → ChangesAt name f es written
written_by {name} f es written l w none there is busy wrote = subst (ChangesAt name f es) (sym wrote) (change_written is_desk_idle no_relay_lock name f es none l w there is busy)

pub invariant_of-self : goal.invariant_of-self
invariant_of-self c =
    let name = c.args.name.now in
    let es = c.self.inside.locks.entries in
    let f = step c.args.event in
    let tree = c.get_mut.follows.lender c.step.new.self in
    let idle : is_desk_idle (f c.in-Some.lock.now) ≡ true = ap is_desk_idle (sym c.step.ensures.value) ∙ sym c.if-is_idle.ensures.value in
    let change : ChangesAt name f es c.take_out.new.locks.entries =
    gone_by f es tree.entries c.take_out.new.locks.entries c.in-Some.lock.now c.step.new.self c.self.invariant.1 (sym c.in-Some.ensures.value) c.step.ensures.value idle
    (c.get_mut.follows.holds c.step.new.self).0 c.take_out.ensures.entries in
    (c.take_out.ensures.ordered, change_none_idle is_desk_idle no_relay_lock name f es c.take_out.new.locks.entries c.self.invariant.1 change)

pub returns-then-is_idle : goal.returns-then-is_idle
returns-then-is_idle c =
    let name = c.args.name.now in
    let es = c.self.inside.locks.entries in
    let f = step c.args.event in
    let tree = c.get_mut.follows.lender c.step.new.self in
    let idle : is_desk_idle (f c.in-Some.lock.now) ≡ true = ap is_desk_idle (sym c.step.ensures.value) ∙ sym c.if-is_idle.ensures.value in
    let change : ChangesAt name f es c.take_out.new.locks.entries = gone_by f es tree.entries c.take_out.new.locks.entries c.in-Some.lock.now c.step.new.self c.self.invariant.1 (sym c.in-Some.ensures.value) c.step.ensures.value idle (c.get_mut.follows.holds c.step.new.self).0 c.take_out.ensures.entries in
    rw (← c.self.view_is) (record {
      after = change;
      table = record { ascend = c.take_out.ensures.ordered; none_idle = change_none_idle is_desk_idle no_relay_lock name f es c.take_out.new.locks.entries c.self.invariant.1 change };
    })

pub invariant_of-self-else-is_idle : goal.invariant_of-self-else-is_idle
invariant_of-self-else-is_idle c =
    let name = c.args.name.now in
    let es = c.self.inside.locks.entries in
    let f = step c.args.event in
    let tree = c.get_mut.follows.lender c.step.new.self in
    let busy : is_desk_idle (f c.in-Some.lock.now) ≡ false = ap is_desk_idle (sym c.step.ensures.value) ∙ sym c.is_idle.ensures.value ∙ c.if-is_idle.false in
    let change : ChangesAt name f es tree.entries =
    written_by f es tree.entries c.in-Some.lock.now c.step.new.self c.self.invariant.1 (sym c.in-Some.ensures.value) c.step.ensures.value busy
    (c.get_mut.follows.holds c.step.new.self).0 in
    ((c.get_mut.follows.holds c.step.new.self).4, change_none_idle is_desk_idle no_relay_lock name f es tree.entries c.self.invariant.1 change)

pub returns-else-is_idle : goal.returns-else-is_idle
returns-else-is_idle c =
    let name = c.args.name.now in
    let es = c.self.inside.locks.entries in
    let f = step c.args.event in
    let tree = c.get_mut.follows.lender c.step.new.self in
    let busy : is_desk_idle (f c.in-Some.lock.now) ≡ false = ap is_desk_idle (sym c.step.ensures.value) ∙ sym c.is_idle.ensures.value ∙ c.if-is_idle.false in
    let change : ChangesAt name f es tree.entries = written_by f es tree.entries c.in-Some.lock.now c.step.new.self c.self.invariant.1 (sym c.in-Some.ensures.value) c.step.ensures.value busy (c.get_mut.follows.holds c.step.new.self).0 in
    rw (← c.self.view_is) (record {
      after = change;
      table = record { ascend = (c.get_mut.follows.holds c.step.new.self).4; none_idle = change_none_idle is_desk_idle no_relay_lock name f es tree.entries c.self.invariant.1 change };
    })

pub returns-in_default : goal.returns-in_default
returns-in_default c =
    let name = c.args.name.now in
    let es = c.self.inside.locks.entries in
    let f = step c.args.event in
    let none : lookup (is_at (slice_cmp nat_cmp name)) es ≡ None = sym c.in_default.ensures.value in
    rw (← c.self.view_is) (record {
      after = subst (ChangesAt name f es) (sym (ap (λ m. m.entries) c.get_mut.follows.holds-at-none)) (change_none is_desk_idle no_relay_lock name f es c.self.invariant.1 none refl (still_idle c.args.event));
      table = rw c.get_mut.follows.holds-at-none (record { ascend = c.self.invariant.0; none_idle = c.self.invariant.1 });
    })
