use Rattle.ovs_node_threads.proofs.Agreeing.{same_held, same_rows}
use Rattle.ovs_node_threads.proofs.laws.nodes_with_the_same_links_agree.Goals as goal

pub returns-clause-same : goal.returns-clause-same
returns-clause-same c = same_rows

pub returns-clause-held : goal.returns-clause-held
returns-clause-held c = same_held
