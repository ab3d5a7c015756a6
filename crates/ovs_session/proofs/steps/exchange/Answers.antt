use Rattle.ovs_session.proofs.Moved.{moved_still}
use Rattle.ovs_session.proofs.steps.exchange.Goals as goal

pub returns-in-Err-clause-moved : goal.returns-in-Err-clause-moved
returns-in-Err-clause-moved g c limit = moved_still g.S.Service.answers g.S.Service.tells limit _ _ _

pub returns-in-Ok-More-clause-moved : goal.returns-in-Ok-More-clause-moved
returns-in-Ok-More-clause-moved g c limit = moved_still g.S.Service.answers g.S.Service.tells limit _ _ _

pub returns-in-Ok-Untaken-clause-moved : goal.returns-in-Ok-Untaken-clause-moved
returns-in-Ok-Untaken-clause-moved g c limit = moved_still g.S.Service.answers g.S.Service.tells limit _ _ _

pub returns-in-Ok-Refused-clause-moved : goal.returns-in-Ok-Refused-clause-moved
returns-in-Ok-Refused-clause-moved g c limit = moved_still g.S.Service.answers g.S.Service.tells limit _ _ _
