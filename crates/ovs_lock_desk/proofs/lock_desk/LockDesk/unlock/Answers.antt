use Rattle.std.proofs.Common.{◌≡◌, ℕ, Bool, true, false, cond, Some, None, refl, ap, subst, ◌∙◌}
use Rattle.std.specs.Prelude.{not}
use Rattle.ovs_locks.specs.BySession.{Remarks}
use Rattle.ovs_locks.specs.Lock.{stands}
use Rattle.ovs_lock_desk.specs.RelayLock.{RelayLockValue, own_steal_open, refusal}
use Rattle.ovs_lock_desk.specs.LockDesk.{relay_lock_at}
use Rattle.ovs_lock_desk.specs.OwedMarks.{desk_mark}
use Rattle.ovs_lock_desk.specs.declared.lock_state.LockVerb.TheVariants as verbs
use Rattle.ovs_lock_desk.specs.declared.error.DeskError.TheVariants as errors
use Rattle.ovs_lock_desk.proofs.OwedMarks.{named_remarked, marked_still}
use Rattle.ovs_lock_desk.proofs.lock_desk.LockDesk.unlock.Goals as goal

-- a session whose unlocking isn't refused has no steal that isn't answered
may_unlock : (has_source : Bool) (session : ℕ) (l : RelayLockValue) → None ≡ refusal has_source verbs.Unlock session l → own_steal_open session l ≡ false
may_unlock has_source session l none = by (stands session l.lock) (own_steal_open session l) none
  where
    by : (b c : Bool) → None ≡ cond (not b) (Some errors.NeverAsked) (cond c (Some errors.StealPending) None) → c ≡ false
    by false c e = absurd cc
    by true true e = absurd cc
    by true false e = refl

pub at-requires : goal.at-requires
at-requires c =
    let session = c.args.session in
    let name = c.args.name.now in
    let none = c.in_default.ensures.value ∙ ap (λ locks. refusal c.self.inside.has_source verbs.Unlock session (relay_lock_at name locks)) c.locks.ensures.value in
    record {
      may =
          subst (λ locks. own_steal_open session (relay_lock_at name locks) ≡ false) (ap (λ d. d.locks) c.self.view_is)
          (may_unlock c.self.inside.has_source session (relay_lock_at name c.self.inside.table) none);
    }

pub invariant_of-self : goal.invariant_of-self
invariant_of-self c =
    let session = c.args.session in
    let name = c.args.name.now in
    let locks = c.self-2.inside.table in
    let s = c.self-2.inside.sessions in
    let t = c.remark.new.sessions in
    let marks = subst (λ locks. Remarks (λ x. desk_mark x (relay_lock_at name locks)) session name s t) c.locks-2.ensures.value c.remark.ensures.marks in
    (c.self-2.invariant.0, named_remarked locks name session s t c.self-2.invariant.1 marks, marked_still locks name session s t c.self-2.invariant.2 marks)
