use Rattle.std.proofs.Common.{List, ℕ, Result, Ok, Err, ◌≡◌, ◌∙◌, Some, false, sym, ap, subst}
use Rattle.std.specs.Prelude.{OnOk, OnErr}
use Rattle.std.specs.BTreeMap.{is_at}
use Rattle.std.specs.Cmp.Lexicographic.{slice_cmp}
use Rattle.std.specs.Map.{lookup, set_value}
use Rattle.std.specs.Ordering.{nat_cmp}
use Rattle.std.proofs.lemmas.Map.Steps.{set_value_same}
use Rattle.std.proofs.lemmas.Result.{on_ok_weaker, on_err_weaker}
use Rattle.ovs_locks.specs.Lock.{LockValue, is_idle, asked}
use Rattle.ovs_locks.specs.LockTable.{Locks, NoneIdle}
use Rattle.ovs_locks.proofs.ByName.{none_idle_set}
use Rattle.ovs_locks.proofs.Tables.{written, unwritten}
use Rattle.ovs_locks.proofs.lock_map.LockMap.ask.Goals as goal

-- a lock that was written isn't idle, or is as it was
still : {T E : Type 0} (name : List ℕ) (es written : Locks) (l w : LockValue) (r : Result T E) → NoneIdle es → lookup (is_at (slice_cmp nat_cmp name)) es ≡ Some l
    → written ≡ set_value (is_at (slice_cmp nat_cmp name)) es w → OnOk r (is_idle w ≡ false) → OnErr r (w ≡ l) → NoneIdle written
still name es written l w (Ok x) none there wrote busy same = subst NoneIdle (sym wrote) (none_idle_set is_idle (is_at (slice_cmp nat_cmp name)) w es busy none)
still name es written l w (Err e) none there wrote busy same =
    subst NoneIdle (sym (wrote ∙ ap (set_value (is_at (slice_cmp nat_cmp name)) es) same ∙ set_value_same (is_at (slice_cmp nat_cmp name)) es l there)) none

pub invariant_of-self : goal.invariant_of-self
invariant_of-self c = (
  (c.get_mut.follows.holds c.ask.new.self).4,
  still c.args.name.now c.self.inside.locks.entries (c.get_mut.follows.lender c.ask.new.self).entries c.in-Some.lock.now c.ask.new.self c.ask.result c.self.invariant.1 (sym c.in-Some.ensures.value)
      (c.get_mut.follows.holds c.ask.new.self).0 c.ask.ensures.busy c.ask.ensures.unchanged,
)

pub returns-in-Some-clause-after : goal.returns-in-Some-clause-after
returns-in-Some-clause-after c = rw (← c.self.view_is) (on_ok_weaker c.ask.result (λ e. written c.args.name.now c.in-Some.lock.now c.ask.new.self (asked c.args.how c.args.session) c.self.inside.locks (c.get_mut.follows.lender c.ask.new.self) c.in-Some.ensures.value (c.get_mut.follows.holds c.ask.new.self) e) c.ask.ensures.after)

pub returns-in-Some-clause-unchanged : goal.returns-in-Some-clause-unchanged
returns-in-Some-clause-unchanged c = rw (← c.self.view_is) (on_err_weaker c.ask.result (λ e. unwritten c.args.name.now c.in-Some.lock.now c.ask.new.self c.self.inside.locks (c.get_mut.follows.lender c.ask.new.self) c.in-Some.ensures.value (c.get_mut.follows.holds c.ask.new.self) e) c.ask.ensures.unchanged)

pub returns-in-Some-clause-none_idle : goal.returns-in-Some-clause-none_idle
returns-in-Some-clause-none_idle c =
    still c.args.name.now c.self.inside.locks.entries (c.get_mut.follows.lender c.ask.new.self).entries c.in-Some.lock.now c.ask.new.self c.ask.result c.self.invariant.1 (sym c.in-Some.ensures.value)
    (c.get_mut.follows.holds c.ask.new.self).0 c.ask.ensures.busy c.ask.ensures.unchanged
