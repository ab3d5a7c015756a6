use Rattle.std.proofs.Common.{refl}
use Rattle.ovs_session.proofs.Served.{worked_still}
use Rattle.ovs_session.proofs.steps.tell_below.Goals as goal

pub returns-then-is_full-clause-worked : goal.returns-then-is_full-clause-worked
returns-then-is_full-clause-worked g c = worked_still g.S.Service.answers g.S.Service.tells _ _ _ refl
