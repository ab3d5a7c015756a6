use Rattle.std.proofs.Common.{refl, ap, sym, subst}
use Rattle.ovs_node.specs.Ledger.{TakesOne}
use Rattle.ovs_node.proofs.Takings.{tells_both, tells_then}
use Rattle.ovs_node.proofs.node.Node+K+Q+Handle+K+R.fold_next.Goals as goal

pub returns-clause-popped : goal.returns-clause-popped
returns-clause-popped g c =
    let before = c.fold_pending_and_post in
    let after = c.fold_pending_and_post-2 in
    λ _. subst (λ feed. TakesOne feed after.new.self.intake.feed) before.ensures.feed
    (subst (λ feed. TakesOne before.new.self.intake.feed feed) (sym after.ensures.feed) (c.if-not-pop.ensures.popped refl))

pub returns-in_err-fold_pending_and_post-2-clause-told : goal.returns-in_err-fold_pending_and_post-2-clause-told
returns-in_err-fold_pending_and_post-2-clause-told g c =
    let o = c.pop.ensures.others in
    tells_both _ _ _ (tells_then _ _ _ c.fold_pending_and_post.ensures.told (ap (λ i. i.untold) o) (ap (λ i. i.forks) o) (ap (λ i. i.short) o)) c.fold_pending_and_post-2.ensures.told

pub returns-clause-told : goal.returns-clause-told
returns-clause-told g c =
    let o = c.pop.ensures.others in
    tells_both _ _ _ (tells_then _ _ _ c.fold_pending_and_post.ensures.told (ap (λ i. i.untold) o) (ap (λ i. i.forks) o) (ap (λ i. i.short) o)) c.fold_pending_and_post-2.ensures.told
