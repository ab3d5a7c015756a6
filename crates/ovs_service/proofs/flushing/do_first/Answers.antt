use Rattle.std.proofs.Common.{rules, refl}
use Rattle.ovs_service.proofs.Settled.{does_nothing, does_gone, does_left}
use Rattle.ovs_service.proofs.flushing.do_first.Goals as goal

pub returns-in_default-clause-done : goal.returns-in_default-clause-done
returns-in_default-clause-done g c = does_nothing g.D.ServiceAuthority.replies _ _ _ _ _ _ (search rules) refl refl

pub returns-in-Ok-None-clause-done : goal.returns-in-Ok-None-clause-done
returns-in-Ok-None-clause-done g c =
    does_gone g.D.ServiceAuthority.replies c.in-Some.due _ _ _ _ _ _ _ _ c.in-Ok-None.ensures.done c.in-Ok-None.field-0-is c.in-Some.ensures.items refl

pub returns-in-Ok-Some-clause-done : goal.returns-in-Ok-Some-clause-done
returns-in-Ok-Some-clause-done g c =
    does_left g.D.ServiceAuthority.replies c.in-Some.due c.in-Ok-Some.next _ _ _ _ _ _ _ _ c.in-Ok-Some.ensures.done c.in-Ok-Some.field-0-is c.in-Some.ensures.items
    c.push_front_reserved.ensures.items
