use Rattle.ovs_node_threads.proofs.Nobody.{are_none}
use Rattle.ovs_node_threads.proofs.worker_poller.IdlePoller.into_poller.Goals as goal

pub returns-clause-none : goal.returns-clause-none
returns-clause-none g c = are_none _ c.args.self.none
