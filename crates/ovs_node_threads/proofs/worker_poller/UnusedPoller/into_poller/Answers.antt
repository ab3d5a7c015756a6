use Rattle.ovs_node_threads.proofs.Nobody.{are_none, is_empty}
use Rattle.ovs_node_threads.proofs.worker_poller.UnusedPoller.into_poller.Goals as goal

pub returns-clause-none : goal.returns-clause-none
returns-clause-none g c = are_none _ c.args.self.none

pub returns-clause-none_back : goal.returns-clause-none_back
returns-clause-none_back g c = is_empty _ c.args.self.none_back
