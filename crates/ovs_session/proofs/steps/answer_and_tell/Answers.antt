use Rattle.std.proofs.Common.{Ok, ap}
use Rattle.ovs_session.specs.Turning.{at_hand}
use Rattle.ovs_session.proofs.Served.{worked_more}
use Rattle.ovs_session.proofs.Turning.{may_go_on}
use Rattle.ovs_session.proofs.steps.answer_and_tell.Goals as goal

pub returns-in_err-tell_below-in-Ok-clause-worked : goal.returns-in_err-tell_below-in-Ok-clause-worked
returns-in_err-tell_below-in-Ok-clause-worked g c =
    worked_more g.S.Service.answers g.S.Service.tells _ _ _ _ c.answer_all.ensures.worked c.tell_below.ensures.worked

pub returns-in_err-tell_below-in-Err-BadInput-clause-worked : goal.returns-in_err-tell_below-in-Err-BadInput-clause-worked
returns-in_err-tell_below-in-Err-BadInput-clause-worked g c =
    worked_more g.S.Service.answers g.S.Service.tells _ _ _ _ c.answer_all.ensures.worked c.tell_below-in-Err-BadInput.ensures.worked

pub returns-in-Idle-clause-worked : goal.returns-in-Idle-clause-worked
returns-in-Idle-clause-worked g c =
    worked_more g.S.Service.answers g.S.Service.tells _ _ _ _ c.answer_all.ensures.worked c.tell_below.ensures.worked

pub returns-in-Idle-clause-busy : goal.returns-in-Idle-clause-busy
returns-in-Idle-clause-busy g c =
    let all = c.in-Ok.ensures in
    let told = c.in_ok-tell_below-in-Ok.ensures in
    may_go_on g.S.Service.tells g.S.Service.may_answer g.S.Service.is_answered _ c.in-Ok.left c.args.session.now c.answer_all.new.session c.tell_below.new.session
    (λ e. all.more (ap Ok e)) (λ e. all.untaken (ap Ok e)) (λ e. all.never.0 (ap Ok e)) (λ e. all.never.1 (ap Ok e))
    told.grows (ap at_hand told.rest) told.some

pub returns-in-Busy-clause-worked : goal.returns-in-Busy-clause-worked
returns-in-Busy-clause-worked g c =
    worked_more g.S.Service.answers g.S.Service.tells _ _ _ _ c.answer_all.ensures.worked c.tell_below.ensures.worked

pub returns-in-Idle-2-clause-worked : goal.returns-in-Idle-2-clause-worked
returns-in-Idle-2-clause-worked g c =
    worked_more g.S.Service.answers g.S.Service.tells _ _ _ _ c.answer_all.ensures.worked c.tell_below-in-Err-BadInput.ensures.worked

pub returns-in-Busy-2-clause-worked : goal.returns-in-Busy-2-clause-worked
returns-in-Busy-2-clause-worked g c =
    worked_more g.S.Service.answers g.S.Service.tells _ _ _ _ c.answer_all.ensures.worked c.tell_below-in-Err-BadInput.ensures.worked
