use Rattle.std.proofs.Common.{List, ℕ, ◌≡◌, ◌∙◌, Some, None, refl, sym, ap, subst}
use Rattle.std.specs.Prelude.{unwrap_or}
use Rattle.std.specs.BTreeMap.{is_at}
use Rattle.std.specs.Cmp.Lexicographic.{slice_cmp}
use Rattle.std.specs.Map.{lookup, set_value}
use Rattle.std.specs.Ordering.{nat_cmp}
use Rattle.ovs_locks.specs.Lock.{LockValue, no_lock, is_idle, after_one}
use Rattle.ovs_locks.specs.LockTable.{Locks, NoneIdle, ChangesAt, Becomes, lock_at}
use Rattle.ovs_locks.proofs.ByName.{change_written, change_none, change_none_idle, busy_there}
use Rattle.ovs_locks.proofs.Idle.{one_idle}
use Rattle.ovs_locks.proofs.Tables.{written}
use Rattle.ovs_locks.proofs.lock_map.LockMap.note_one_told.Goals as goal
use Rattle.ovs_locks.proofs.lock_map.LockMap.note_one_told.Goals.{in-Some, in_default}

told : (session : ℕ) (name : List ℕ) (es written : Locks) (l w : LockValue) → NoneIdle es → lookup (is_at (slice_cmp nat_cmp name)) es ≡ Some l → w ≡ after_one session l
    → written ≡ set_value (is_at (slice_cmp nat_cmp name)) es w → ChangesAt name (after_one session) es written
told session name es written l w none there is wrote =
    subst (ChangesAt name (after_one session) es) (sym wrote)
    (change_written is_idle no_lock name (after_one session) es none l w there is (one_idle session l ∙ busy_there is_idle (is_at (slice_cmp nat_cmp name)) es l none there))

-- no lock is there, and telling makes none
unasked : (session : ℕ) (name : List ℕ) (es : Locks) → None ≡ lookup (is_at (slice_cmp nat_cmp name)) es → Becomes es name (after_one session (lock_at name es)) es
unasked session name es none = (ap (λ o. unwrap_or o no_lock) (sym none) ∙ ap (λ o. after_one session (unwrap_or o no_lock)) none, λ other ne. refl)

pub invariant_of-self : goal.invariant_of-self
invariant_of-self c = elim c.match-get_mut.branch [
  | in-Some w ↦ rw w.self-inside-is (
    (c.get_mut.follows.holds w.note_one_told.new.self).4,
    change_none_idle is_idle no_lock c.args.name.now (after_one c.args.session) c.self.inside.locks.entries (c.get_mut.follows.lender w.note_one_told.new.self).entries c.self.invariant.1
        (told c.args.session c.args.name.now c.self.inside.locks.entries (c.get_mut.follows.lender w.note_one_told.new.self).entries w.in-Some.lock.now w.note_one_told.new.self c.self.invariant.1
        (sym w.in-Some.ensures.value) w.note_one_told.ensures.value (c.get_mut.follows.holds w.note_one_told.new.self).0),
  )
  | in_default w ↦ rw (w.self-inside-is, c.get_mut.follows.holds-at-none) c.self.invariant
]

pub returns-clause-after : goal.returns-clause-after
returns-clause-after c = rw (← c.self.view_is) (elim c.match-get_mut.branch [
  | in-Some w ↦ rw w.self-inside-is
      (told c.args.session c.args.name.now c.self.inside.locks.entries (c.get_mut.follows.lender w.note_one_told.new.self).entries w.in-Some.lock.now w.note_one_told.new.self c.self.invariant.1
      (sym w.in-Some.ensures.value) w.note_one_told.ensures.value (c.get_mut.follows.holds w.note_one_told.new.self).0)
  | in_default w ↦ rw (w.self-inside-is, c.get_mut.follows.holds-at-none)
      (change_none is_idle no_lock c.args.name.now (after_one c.args.session) c.self.inside.locks.entries c.self.invariant.1 (sym w.in_default.ensures.value) refl refl)
])

pub returns-clause-becomes : goal.returns-clause-becomes
returns-clause-becomes c = rw (← c.self.view_is) (elim c.match-get_mut.branch [
  | in-Some w ↦ rw w.self-inside-is
      (written c.args.name.now w.in-Some.lock.now w.note_one_told.new.self (after_one c.args.session) c.self.inside.locks (c.get_mut.follows.lender w.note_one_told.new.self) w.in-Some.ensures.value
      (c.get_mut.follows.holds w.note_one_told.new.self) w.note_one_told.ensures.value)
  | in_default w ↦ rw (w.self-inside-is, c.get_mut.follows.holds-at-none) (unasked c.args.session c.args.name.now c.self.inside.locks.entries w.in_default.ensures.value)
])

pub returns-clause-none_idle : goal.returns-clause-none_idle
returns-clause-none_idle c = elim c.match-get_mut.branch [
  | in-Some w ↦ rw w.self-inside-is
      (change_none_idle is_idle no_lock c.args.name.now (after_one c.args.session) c.self.inside.locks.entries (c.get_mut.follows.lender w.note_one_told.new.self).entries c.self.invariant.1
      (told c.args.session c.args.name.now c.self.inside.locks.entries (c.get_mut.follows.lender w.note_one_told.new.self).entries w.in-Some.lock.now w.note_one_told.new.self c.self.invariant.1
      (sym w.in-Some.ensures.value) w.note_one_told.ensures.value (c.get_mut.follows.holds w.note_one_told.new.self).0))
  | in_default w ↦ rw (w.self-inside-is, c.get_mut.follows.holds-at-none) c.self.invariant.1
]
