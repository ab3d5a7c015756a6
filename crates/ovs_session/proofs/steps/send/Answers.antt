use Rattle.ovs_session.proofs.Moved.{moved_wrote}
use Rattle.ovs_session.proofs.steps.send.Goals as goal

pub returns-in_err-write_once-clause-moved : goal.returns-in_err-write_once-clause-moved
returns-in_err-write_once-clause-moved g c limit input = moved_wrote g.S.Service.answers g.S.Service.tells limit input _ _ _ _ c.write_once.ensures.written

pub returns-then-branch-clause-moved : goal.returns-then-branch-clause-moved
returns-then-branch-clause-moved g c limit input = moved_wrote g.S.Service.answers g.S.Service.tells limit input _ _ _ _ c.write_once.ensures.written

pub returns-else-branch-clause-moved : goal.returns-else-branch-clause-moved
returns-else-branch-clause-moved g c limit input = moved_wrote g.S.Service.answers g.S.Service.tells limit input _ _ _ _ c.write_once.ensures.written
