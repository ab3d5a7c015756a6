use Rattle.std.proofs.Common.{◌∙◌, ap, sym}
use Rattle.std.proofs.lemmas.Result.{on_ok_weaker}
use Rattle.ovs_upstream.specs.declared.up_session.UpSession.{UpSession}
use Rattle.ovs_world.proofs.sim_session.SimSession.hear.Goals as goal

pub returns-clause-asked : goal.returns-clause-asked
returns-clause-asked c = on_ok_weaker c.follow.result (λ up before after. c.in-Ok.ensures.asked before (sym (ap (λ (u : UpSession). u.stage) up) ∙ after)) c.follow.ensures.up
