use Rattle.ovs_sync.proofs.Moves.{begins}
use Rattle.ovs_sync.proofs.feed.queue.OpenFeed.new.Goals as goal

pub ruled-requires-clause-rule : goal.ruled-requires-clause-rule
ruled-requires-clause-rule g c = begins
