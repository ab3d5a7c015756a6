use Rattle.std.proofs.Common.{◌≡◌, ℕ, Result, Ok, Err, subst, sym}
use Rattle.std.specs.Prelude.{OnOk, OnErr}
use Rattle.ovs_locks.specs.ByName.{Ascends}
use Rattle.ovs_locks.specs.BySession.{Sessions}
use Rattle.ovs_lock_desk.specs.LockDesk.{RelayLocks, AreNamed, AreMarked, SendsFirst}
use Rattle.ovs_lock_desk.proofs.Names.{named_sent}
use Rattle.ovs_lock_desk.proofs.OwedMarks.{marked_sent}
use Rattle.ovs_lock_desk.proofs.lock_desk.LockDesk.sent.Goals as goal

module _ {T E : Type 0} (number : ℕ) (old new : RelayLocks) (s : Sessions) (ascend : Ascends old) where
  named_either : (r : Result T E) → AreNamed old s → OnOk r (SendsFirst number old new) → OnErr r (new ≡ old) → AreNamed new s
  named_either (Ok x) named sends unchanged = named_sent number old new s ascend named sends
  named_either (Err e) named sends unchanged = subst (λ locks. AreNamed locks s) (sym unchanged) named

  marked_either : (r : Result T E) → AreMarked old s → OnOk r (SendsFirst number old new) → OnErr r (new ≡ old) → AreMarked new s
  marked_either (Ok x) marked sends unchanged = marked_sent number old new s ascend marked sends
  marked_either (Err e) marked sends unchanged = subst (λ locks. AreMarked locks s) (sym unchanged) marked

pub invariant_of-self : goal.invariant_of-self
invariant_of-self c = (
  c.sent.ensures.table,
  named_either c.args.number c.self.inside.table c.sent.new.self c.self.inside.sessions c.self.invariant.0.ascend c.sent.result c.self.invariant.1 c.sent.ensures.after c.sent.ensures.unchanged,
  marked_either c.args.number c.self.inside.table c.sent.new.self c.self.inside.sessions c.self.invariant.0.ascend c.sent.result c.self.invariant.2 c.sent.ensures.after c.sent.ensures.unchanged,
)
