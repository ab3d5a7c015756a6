use Rattle.ovs_source_node.proofs.LastSteps.{collected, given_behind, given_some}
use Rattle.ovs_source_node.proofs.locked_source.collect_shown.Goals as goal

pub returns-clause-given : goal.returns-clause-given
returns-clause-given g c =
    collected g.N.SourceName.start c.args.is_held_back c.args.session_id c.args.session.now.last c.args.desk.now _ _ (c.may_be_given.ensures.shown cc)
    c.in_ok-collect.ensures.given

pub returns-clause-ends : goal.returns-clause-ends
returns-clause-ends g c =
    given_some c.args.session_id _ _ _ (given_behind c.args.session_id _ _ _ _ c.may_be_given.ensures.learnt c.in_ok-collect.ensures.ends)
