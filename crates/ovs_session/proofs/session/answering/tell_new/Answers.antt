use Rattle.std.proofs.Common.{refl}
use Rattle.ovs_session.proofs.Served.{told_at, still_at, changed}
use Rattle.ovs_session.proofs.session.answering.tell_new.Goals as goal

pub returns-clause-worked : goal.returns-clause-worked
returns-clause-worked g c limit below =
    let said = c.in_ok-tell.ensures.ok in
    told_at g.S.Service.answers g.S.Service.tells limit _ _ _ said.0 c.tell.new.session c.session.view_is said.1
    (changed _ _ _ _ _ _ _ _ _ _ _ refl refl said.2) below

pub returns-in_err-tell-clause-worked : goal.returns-in_err-tell-clause-worked
returns-in_err-tell-clause-worked g c limit below =
    let same = c.in_err-tell.ensures.err in
    still_at g.S.Service.answers g.S.Service.tells limit _ _ _ c.session.view_is (changed _ _ _ _ _ _ _ _ _ _ _ refl same.0 same.1)
