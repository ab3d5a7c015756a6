use Rattle.std.proofs.Common.{ap}
use Rattle.ovs_sync.proofs.Moves.{takes, learns}
use Rattle.ovs_sync.proofs.feed.feed.Feed.take.Goals as goal

pub pop_as-requires-clause-rule : goal.pop_as-requires-clause-rule
pop_as-requires-clause-rule g c = let is = ap (λ v. v.takes) c.self.invariant.0.2 in (takes _ _ is, learns _ _ is)
