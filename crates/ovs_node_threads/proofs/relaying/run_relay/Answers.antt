use Rattle.ovs_node_threads.proofs.Reports.{both_of, of_links}
use Rattle.ovs_node_threads.proofs.relaying.run_relay.Goals as goal

pub returns-clause-headline : goal.returns-clause-headline
returns-clause-headline g c h history among =
    both_of c.run_node.result _ _ _ (λ r report schema.
    of_links (g.C.Connector.admits g.K.NodeName.schema) h _ _ schema r.settled r.forks r.short r.dropped report history among) c.run_node.ensures.report c.run_node.ensures.schema
