use Rattle.std.proofs.Common.{ap, sym, ◌∙◌}
use Rattle.ovs_sync.specs.FeedRule.{values_of}
use Rattle.ovs_sync.proofs.Moves.{learns}
use Rattle.ovs_sync.proofs.Values.{values_append}
use Rattle.ovs_sync.proofs.feed.feed.Feed.compare.Goals as goal

pub learn_as-requires-clause-rule : goal.learn_as-requires-clause-rule
learn_as-requires-clause-rule g c = learns _ _ (ap (λ v. v.takes) c.self.invariant.0.2)

pub returns-clause-begins : goal.returns-clause-begins
returns-clause-begins g c =
    let told = c.learn_as.ensures.rule in
    rw (← c.self.view_is) (λ k lt. (values_of k told.0, sym (values_append k _ told.0) ∙ sym (told.1.0 k lt)))
