use Rattle.ovs_node_threads.proofs.LastSteps.{asked}
use Rattle.ovs_node_threads.proofs.shared_authority.LockedForwarderSharedAuthority.ask.Goals as goal

pub returns-clause-replied : goal.returns-clause-replied
returns-clause-replied g c = asked g.N.DeskName.database c.args.session_id c.args.ask _ _ c.ask.result c.ask.ensures.owing c.ask.ensures.asked
