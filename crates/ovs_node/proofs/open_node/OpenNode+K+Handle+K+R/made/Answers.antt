use Rattle.ovs_node.proofs.Begins.{none_chain}
use Rattle.ovs_node.proofs.open_node.OpenNode+K+Handle+K+R.made.Goals as goal

pub named-book-requires-clause-first : goal.named-book-requires-clause-first
named-book-requires-clause-first g c = none_chain g.K.NodeName.schema
