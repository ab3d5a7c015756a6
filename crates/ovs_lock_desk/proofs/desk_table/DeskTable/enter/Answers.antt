use Rattle.std.proofs.Common.{List, ℕ, Result, Ok, Err, ◌≡◌, ◌∙◌, Some, None, false, refl, sym, ap, subst}
use Rattle.std.specs.Prelude.{OnOk, OnErr}
use Rattle.std.specs.BTreeMap.{is_at, insert_entry}
use Rattle.std.specs.Cmp.Lexicographic.{slice_cmp}
use Rattle.std.specs.Map.{lookup, set_value}
use Rattle.std.specs.Ordering.{nat_cmp}
use Rattle.std.proofs.lemmas.Map.Steps.{set_value_same}
use Rattle.ovs_lock_desk.specs.RelayLock.{RelayLockValue, no_relay_lock, is_desk_idle, asked_here}
use Rattle.ovs_lock_desk.specs.LockDesk.{RelayLocks, ChangesAt, NoneIdle, IsDeskTable}
use Rattle.ovs_locks.specs.ByName.{Ascends}
use Rattle.ovs_locks.proofs.ByName.{change_written, change_put, change_none_idle}
use Rattle.ovs_lock_desk.proofs.desk_table.DeskTable.enter.Goals as goal

module _ (name : List ℕ) (f : RelayLockValue → RelayLockValue) (es written : RelayLocks) (l w : RelayLockValue) (none : NoneIdle es)
    (there : lookup (is_at (slice_cmp nat_cmp name)) es ≡ Some l) (wrote : written ≡ set_value (is_at (slice_cmp nat_cmp name)) es w) where
  entered : {T E : Type 0} (r : Result T E) → OnOk r (w ≡ f l) → OnOk r (is_desk_idle w ≡ false) → OnOk r (ChangesAt name f es written)
  entered (Ok x) is busy = subst (ChangesAt name f es) (sym wrote) (change_written is_desk_idle no_relay_lock name f es none l w there is (ap is_desk_idle (sym is) ∙ busy))
  entered (Err e) is busy = tt

  same : w ≡ l → written ≡ es
  same is = wrote ∙ ap (set_value (is_at (slice_cmp nat_cmp name)) es) is ∙ set_value_same (is_at (slice_cmp nat_cmp name)) es l there

  refused : {T E : Type 0} (r : Result T E) → OnErr r (w ≡ l) → OnErr r (written ≡ es)
  refused (Ok x) is = tt
  refused (Err e) is = same is

  still : {T E : Type 0} (r : Result T E) → OnOk r (w ≡ f l) → OnOk r (is_desk_idle w ≡ false) → OnErr r (w ≡ l) → NoneIdle written
  still (Ok x) is busy un = change_none_idle is_desk_idle no_relay_lock name f es written none (subst (ChangesAt name f es) (sym wrote) (change_written is_desk_idle no_relay_lock name f es none l w there is (ap is_desk_idle (sym is) ∙ busy)))
  still (Err e) is busy un = subst NoneIdle (sym (same un)) none

  table_of : {T E : Type 0} (r : Result T E) → Ascends written → OnOk r (w ≡ f l) → OnOk r (is_desk_idle w ≡ false) → OnErr r (w ≡ l) → OnOk r (IsDeskTable written)
  table_of {T} {E} (Ok x) ascend is busy un = record { ascend = ascend; none_idle = still {T = T} {E = E} (Ok x) is busy un }
  table_of (Err e) ascend is busy un = tt

pub invariant_of-self : goal.invariant_of-self
invariant_of-self c =
    let tree = c.get_mut.follows.lender c.ask.new.self in (
      (c.get_mut.follows.holds c.ask.new.self).4,
      still c.args.name.now (asked_here c.args.has_source c.args.session c.args.verb c.args.id.now) c.self.inside.locks.entries tree.entries c.in-Some.lock.now c.ask.new.self
          c.self.invariant.1 (sym c.in-Some.ensures.value) (c.get_mut.follows.holds c.ask.new.self).0 c.ask.result c.ask.ensures.after (c.ask.ensures.busy c.requires.enters) c.ask.ensures.unchanged,
    )

pub returns-in-Some-clause-after : goal.returns-in-Some-clause-after
returns-in-Some-clause-after c =
    let tree = c.get_mut.follows.lender c.ask.new.self in
    rw (← c.self.view_is) (entered c.args.name.now (asked_here c.args.has_source c.args.session c.args.verb c.args.id.now) c.self.inside.locks.entries tree.entries c.in-Some.lock.now c.ask.new.self
    c.self.invariant.1 (sym c.in-Some.ensures.value) (c.get_mut.follows.holds c.ask.new.self).0 c.ask.result c.ask.ensures.after (c.ask.ensures.busy c.requires.enters))

pub returns-in-Some-clause-unchanged : goal.returns-in-Some-clause-unchanged
returns-in-Some-clause-unchanged c =
    let tree = c.get_mut.follows.lender c.ask.new.self in
    rw (← c.self.view_is) (refused c.args.name.now (asked_here c.args.has_source c.args.session c.args.verb c.args.id.now) c.self.inside.locks.entries tree.entries c.in-Some.lock.now c.ask.new.self
    c.self.invariant.1 (sym c.in-Some.ensures.value) (c.get_mut.follows.holds c.ask.new.self).0 c.ask.result c.ask.ensures.unchanged)

pub returns-in-Ok-clause-after : goal.returns-in-Ok-clause-after
returns-in-Ok-clause-after c =
    let name = c.args.name.now in
    let f = asked_here c.args.has_source c.args.session c.args.verb c.args.id.now in
    let es = c.self.inside.locks.entries in
    let none : lookup (is_at (slice_cmp nat_cmp name)) es ≡ None = sym c.in_default.ensures.value in
    let is : c.ask-2.new.self ≡ f no_relay_lock = c.in_ok-answer.ensures.after ∙ ap f c.new-lock.ensures.value in
    let busy : is_desk_idle (f no_relay_lock) ≡ false = ap is_desk_idle (sym is) ∙ c.in_ok-answer.ensures.busy c.requires.enters in
    rw (← c.self.view_is) (subst (ChangesAt name f es) (sym (c.in-Ok.ensures.value ∙ ap (λ m. insert_entry (slice_cmp nat_cmp) m.entries name c.ask-2.new.self) c.get_mut.follows.holds-at-none))
    (change_put is_desk_idle no_relay_lock name f es c.self.invariant.1 c.ask-2.new.self none is refl busy))

pub returns-in-Some-clause-table : goal.returns-in-Some-clause-table
returns-in-Some-clause-table c =
    let tree = c.get_mut.follows.lender c.ask.new.self in
    table_of c.args.name.now (asked_here c.args.has_source c.args.session c.args.verb c.args.id.now) c.self.inside.locks.entries tree.entries c.in-Some.lock.now c.ask.new.self
    c.self.invariant.1 (sym c.in-Some.ensures.value) (c.get_mut.follows.holds c.ask.new.self).0 c.ask.result (c.get_mut.follows.holds c.ask.new.self).4 c.ask.ensures.after (c.ask.ensures.busy c.requires.enters) c.ask.ensures.unchanged

pub returns-in-Ok-clause-table : goal.returns-in-Ok-clause-table
returns-in-Ok-clause-table c = c.in-Ok.ensures.table
