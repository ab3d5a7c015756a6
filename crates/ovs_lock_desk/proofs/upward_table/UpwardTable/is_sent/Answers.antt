use Rattle.std.proofs.Common.{◌≡◌, ◌∙◌, Bool, ap, subst, rules}
use Rattle.std.specs.Prelude.{is_some, slice_get}
use Rattle.ovs_locks.specs.ByName.{Ascends, gathered}
use Rattle.ovs_lock_desk.specs.LockDesk.{relay_lock_at}
use Rattle.ovs_lock_desk.specs.UpwardTable.{AreRequested}
use Rattle.ovs_lock_desk.proofs.Requests.{open_under, open_tell}
use Rattle.ovs_lock_desk.proofs.upward_table.UpwardTable.is_sent.Goals as goal

pub returns-in_default : goal.returns-in_default
returns-in_default c =
    let number = c.args.number in
    let locks = c.args.self.now in
    record { value = ap (λ ns. is_some (slice_get (gathered (λ name (b : Bool). open_under number name (relay_lock_at name locks)) ns) 0)) c.in_default.ensures.value ∙ open_tell number locks c.self.inside.requests (subst Ascends c.self.view_is c.self.invariant.table.ascend) c.names.ensures.ascend (subst (λ ls. AreRequested ls c.self.inside.requests) c.self.view_is c.self.invariant.requested) }

pub loop-name-init : goal.loop-name-init
loop-name-init c =
    let number = c.args.number in
    let locks = c.args.self.now in
    let iter : c.into_iter-name-iterator.result ≡ c.in-Some.names.now.entries = search rules in
    ap (λ ns. is_some (slice_get (gathered (λ name (b : Bool). open_under number name (relay_lock_at name locks)) ns) 0)) (iter ∙ c.in-Some.ensures.value) ∙ open_tell number locks c.self.inside.requests (subst Ascends c.self.view_is c.self.invariant.table.ascend) c.names.ensures.ascend (subst (λ ls. AreRequested ls c.self.inside.requests) c.self.view_is c.self.invariant.requested)
