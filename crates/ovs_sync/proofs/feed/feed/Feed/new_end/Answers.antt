use Rattle.std.proofs.Common.{ap}
use Rattle.ovs_sync.proofs.Moves.{forks}
use Rattle.ovs_sync.proofs.feed.feed.Feed.new_end.Goals as goal

pub another-pass-requires-clause-rule : goal.another-pass-requires-clause-rule
another-pass-requires-clause-rule g c = forks _ _ (ap (λ v. v.takes) c.self.invariant.0.2)
