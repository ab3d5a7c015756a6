use Rattle.std.proofs.Common.{ap, sym, ◌∙◌}
use Rattle.ovs_sync.proofs.Moves.{sends}
use Rattle.ovs_sync.proofs.feed.feed_end.push.Goals as goal

pub try_push_as-requires-clause-rule : goal.try_push_as-requires-clause-rule
try_push_as-requires-clause-rule g c =
    let is = c.loop.invariant.0.2 in
    sends _ _ _ _ (ap (λ v. v.sends) is) (c.loop.invariant.1 ∙ sym (ap (λ v. v.number) is))
