use Rattle.std.proofs.Common.{rules, refl}
use Rattle.ovs_service.proofs.Settled.{does_more, does_nothing}
use Rattle.ovs_service.proofs.flushing.flush.Goals as goal

pub loop-step-init : goal.loop-step-init
loop-step-init g c =
    (does_nothing g.D.ServiceAuthority.replies _ _ _ _ _ _ refl refl refl, λ _. (refl, refl, refl), λ none. (none, refl), refl)

pub loop-step-preserved : goal.loop-step-preserved
loop-step-preserved g c = (
  does_more g.D.ServiceAuthority.replies _ _ _ _ _ _ _ _ _ c.loop-step.invariant.0 c.in-Ok.ensures.done,
  search rules,
  λ none. let items = (c.loop-step.invariant.2 none).0 in absurd (search rules),
  search rules,
)
