use Rattle.ovs_session.proofs.Moved.{moved_after}
use Rattle.ovs_session.proofs.Turning.{turn_of_steps}
use Rattle.ovs_session.proofs.turns.go_on.Goals as goal

pub returns-clause-moved : goal.returns-clause-moved
returns-clause-moved g c =
    let limit = c.args.limits.most_unsent in
    moved_after g.S.Service.answers g.S.Service.tells limit _ _ _ _ _ _ _ c.answer_and_tell-left.ensures.worked (c.exchange.ensures.moved limit)

pub returns-clause-turned : goal.returns-clause-turned
returns-clause-turned g c =
    turn_of_steps g.S.Service.answers g.S.Service.tells g.S.Service.may_answer g.S.Service.is_answered _ _ _ _ _ _ _
    c.answer_and_tell-left.ensures.worked c.answer_and_tell-left.ensures.busy c.exchange.ensures.exchanged c.exchange.ensures.busy
