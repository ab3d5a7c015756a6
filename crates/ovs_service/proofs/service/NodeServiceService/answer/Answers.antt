use Rattle.std.proofs.lemmas.Result.{err_from_is_err_and}
use Rattle.ovs_service.proofs.Runs.{heard_then, from_some}
use Rattle.ovs_service.proofs.service.NodeServiceService.answer.Goals as goal

pub returns-in_err-message-clause-bad : goal.returns-in_err-message-clause-bad
returns-in_err-message-clause-bad g c = λ e.
    let p = err_from_is_err_and c.from_residual.result c.from_residual.ensures.1 in
    c.in_err-message.ensures.bad (let is = p.1 in let same = p.2 in cc)

pub returns-clause-shown : goal.returns-clause-shown
returns-clause-shown g c =
    heard_then g.K.NodeName.schema g.D.ServiceAuthority.replies g.D.ServiceAuthority.owes c.args.client.now c.hear.new.client c.flush.new.self
    c.args.out.now c.flush.new.out c.args.text.now c.in_ok-message.message c.hear.new.self.view c.in_ok-message.ensures.says c.in_ok-hear.ensures.heard
    c.flush.ensures.settled c.flush.ensures.same

pub returns-clause-ok : goal.returns-clause-ok
returns-clause-ok g c =
    from_some g.K.NodeName.schema g.D.ServiceAuthority.replies g.D.ServiceAuthority.owes c.hear.new.self.view c.args.client.now c.flush.new.self c.args.out.now c.flush.new.out
    c.args.text.now (heard_then g.K.NodeName.schema g.D.ServiceAuthority.replies g.D.ServiceAuthority.owes c.args.client.now c.hear.new.client c.flush.new.self
    c.args.out.now c.flush.new.out c.args.text.now c.in_ok-message.message c.hear.new.self.view c.in_ok-message.ensures.says c.in_ok-hear.ensures.heard
    c.flush.ensures.settled c.flush.ensures.same)
