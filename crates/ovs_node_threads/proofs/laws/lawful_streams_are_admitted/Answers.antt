use Rattle.ovs_node_threads.proofs.Lawful.{lawful_admits}
use Rattle.ovs_node_threads.proofs.laws.lawful_streams_are_admitted.Goals as goal

pub returns : goal.returns
returns c = record { admitted = lawful_admits }
