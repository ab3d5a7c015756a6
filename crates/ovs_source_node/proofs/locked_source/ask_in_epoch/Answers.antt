use Rattle.ovs_source_node.proofs.LastSteps.{asked, asked_ends}
use Rattle.ovs_source_node.proofs.locked_source.ask_in_epoch.Goals as goal

pub returns-clause-replied : goal.returns-clause-replied
returns-clause-replied g c = asked g.N.SourceName.start c.args.session_id c.args.ask _ _ c.ask.result c.ask.ensures.asked

pub returns-clause-ends : goal.returns-clause-ends
returns-clause-ends g c = asked_ends c.args.session_id c.args.ask _ _ _ c.ask.result c.begin_before.ensures.learnt c.ask.ensures.ends
