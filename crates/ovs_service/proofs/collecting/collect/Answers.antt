use Rattle.std.proofs.Common.{◌∙◌}
use Rattle.ovs_service.proofs.Settled.{collects_more}
use Rattle.ovs_service.proofs.collecting.collect.Goals as goal

pub returns-in-Ok-false-clause-collected : goal.returns-in-Ok-false-clause-collected
returns-in-Ok-false-clause-collected g c =
    collects_more (λ session_id. g.D.ServiceAuthority.owes c.args.is_held_back session_id c.args.session.now.last) c.args.is_held_back _ _ _ _ _ _
    c.loop-collected.invariant.0 c.collect_one.ensures.collected

pub returns-in-Err-clause-collected : goal.returns-in-Err-clause-collected
returns-in-Err-clause-collected g c =
    collects_more (λ session_id. g.D.ServiceAuthority.owes c.args.is_held_back session_id c.args.session.now.last) c.args.is_held_back _ _ _ _ _ _
    c.loop-collected.invariant.0 c.collect_one.ensures.collected

pub loop-collected-preserved : goal.loop-collected-preserved
loop-collected-preserved g c = (
  collects_more (λ session_id. g.D.ServiceAuthority.owes c.args.is_held_back session_id c.args.session.now.last) c.args.is_held_back _ _ _ _ _ _
      c.loop-collected.invariant.0 c.collect_one.ensures.collected,
  c.collect_one.ensures.view ∙ c.loop-collected.invariant.1,
  c.collect_one.ensures.none_ended ∙ c.loop-collected.invariant.2,
)
