use Rattle.std.proofs.Common.{rules, refl}
use Rattle.ovs_service.proofs.Runs.{told_due, told_then, of_some}
use Rattle.ovs_service.proofs.service.NodeServiceService.tell.Goals as goal

pub returns-then-is_changed-clause-shown : goal.returns-then-is_changed-clause-shown
returns-then-is_changed-clause-shown g c =
    told_due g.K.NodeName.schema g.D.ServiceAuthority.replies g.D.ServiceAuthority.owes c.args.client.now c.flush-is_changed.new.self c.flush-is_changed.new.self
    c.args.out.now c.flush-is_changed.new.out c.flush-is_changed.new.out c.args.self.now.view c.flush-is_changed.ensures.settled c.flush-is_changed.ensures.same refl refl
    (λ none. let not_yet = c.flush-is_changed.ensures.none none in let done = c.if-is_changed.true in cc)

pub returns-then-is_changed-clause-ok : goal.returns-then-is_changed-clause-ok
returns-then-is_changed-clause-ok g c =
    of_some g.K.NodeName.schema g.D.ServiceAuthority.replies g.D.ServiceAuthority.owes c.args.self.now.view c.args.client.now c.flush-is_changed.new.self c.args.out.now
    c.flush-is_changed.new.out (told_due g.K.NodeName.schema g.D.ServiceAuthority.replies g.D.ServiceAuthority.owes c.args.client.now c.flush-is_changed.new.self c.flush-is_changed.new.self
    c.args.out.now c.flush-is_changed.new.out c.flush-is_changed.new.out c.args.self.now.view c.flush-is_changed.ensures.settled c.flush-is_changed.ensures.same refl refl
    (λ none. let not_yet = c.flush-is_changed.ensures.none none in let done = c.if-is_changed.true in cc))

pub returns-in-Err-clause-shown : goal.returns-in-Err-clause-shown
returns-in-Err-clause-shown g c =
    told_due g.K.NodeName.schema g.D.ServiceAuthority.replies g.D.ServiceAuthority.owes c.args.client.now c.flush-is_changed.new.self c.tell_new.new.client
    c.args.out.now c.flush-is_changed.new.out c.tell_new.new.out c.tell_new.new.self.view c.flush-is_changed.ensures.settled c.flush-is_changed.ensures.same
    c.in-Err.ensures.unchanged.0 c.in-Err.ensures.unchanged.1
    (λ none. let not_yet = c.flush-is_changed.ensures.none none in let done = c.if-is_changed-2.true in cc)

pub returns-in-Err-clause-ok : goal.returns-in-Err-clause-ok
returns-in-Err-clause-ok g c =
    of_some g.K.NodeName.schema g.D.ServiceAuthority.replies g.D.ServiceAuthority.owes c.tell_new.new.self.view c.args.client.now c.tell_new.new.client c.args.out.now
    c.tell_new.new.out (told_due g.K.NodeName.schema g.D.ServiceAuthority.replies g.D.ServiceAuthority.owes c.args.client.now c.flush-is_changed.new.self c.tell_new.new.client
    c.args.out.now c.flush-is_changed.new.out c.tell_new.new.out c.tell_new.new.self.view c.flush-is_changed.ensures.settled c.flush-is_changed.ensures.same
    c.in-Err.ensures.unchanged.0 c.in-Err.ensures.unchanged.1
    (λ none. let not_yet = c.flush-is_changed.ensures.none none in let done = c.if-is_changed-2.true in cc))

pub returns-in-Ok-clause-shown : goal.returns-in-Ok-clause-shown
returns-in-Ok-clause-shown g c =
    told_then g.K.NodeName.schema g.D.ServiceAuthority.replies g.D.ServiceAuthority.owes c.args.client.now c.flush-is_changed.new.self c.tell_new.new.client
    c.args.out.now c.flush-is_changed.new.out c.tell_new.new.out c.tell_new.new.self.view c.flush-is_changed.ensures.settled c.flush-is_changed.ensures.same
    (c.if-not-is_settled.ensures.value.0 (search rules)) c.in-Ok.ensures.told

pub returns-in-Ok-clause-ok : goal.returns-in-Ok-clause-ok
returns-in-Ok-clause-ok g c =
    of_some g.K.NodeName.schema g.D.ServiceAuthority.replies g.D.ServiceAuthority.owes c.tell_new.new.self.view c.args.client.now c.tell_new.new.client c.args.out.now
    c.tell_new.new.out (told_then g.K.NodeName.schema g.D.ServiceAuthority.replies g.D.ServiceAuthority.owes c.args.client.now c.flush-is_changed.new.self c.tell_new.new.client
    c.args.out.now c.flush-is_changed.new.out c.tell_new.new.out c.tell_new.new.self.view c.flush-is_changed.ensures.settled c.flush-is_changed.ensures.same
    (c.if-not-is_settled.ensures.value.0 (search rules)) c.in-Ok.ensures.told)
