use Rattle.std.proofs.Common.{sym, subst, rules}
use Rattle.ovs_locks.proofs.ByName.{changed_pairs, changed_none_idle}
use Rattle.ovs_lock_desk.specs.RelayLock.{is_desk_idle, step}
use Rattle.ovs_lock_desk.specs.LockDesk.{NoneIdle}
use Rattle.ovs_lock_desk.proofs.desk_table.DeskTable.each.Goals as goal

pub invariant_of-self : goal.invariant_of-self
invariant_of-self c =
    let kept = changed_pairs is_desk_idle _ (step c.args.event) _ (λ k v b w f' t. search rules) _ _ c.retain.ensures.filtered in
    (c.retain.ensures.ordered, subst NoneIdle (sym kept) (changed_none_idle is_desk_idle (step c.args.event) c.self.inside.locks.entries))

pub returns : goal.returns
returns c =
    let kept = changed_pairs is_desk_idle _ (step c.args.event) _ (λ k v b w f' t. search rules) _ _ c.retain.ensures.filtered in
    rw (← c.self.view_is) (record {
      after = kept;
      table = record { ascend = c.retain.ensures.ordered; none_idle = subst NoneIdle (sym kept) (changed_none_idle is_desk_idle (step c.args.event) c.self.inside.locks.entries) };
    })
