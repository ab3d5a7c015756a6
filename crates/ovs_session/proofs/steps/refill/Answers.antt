use Rattle.ovs_session.proofs.Moved.{moved_read, moved_end, moved_fed, moved_more, moved_worked}
use Rattle.ovs_session.proofs.Served.{worked_still}
use Rattle.ovs_session.proofs.steps.refill.Goals as goal

pub returns-in_err-outcome-clause-moved : goal.returns-in_err-outcome-clause-moved
returns-in_err-outcome-clause-moved g c limit output was =
    moved_read g.S.Service.answers g.S.Service.tells limit _ _ output _ _ was c.read_once.ensures.counted c.read_once.ensures.read

pub returns-in_err-feed-clause-moved : goal.returns-in_err-feed-clause-moved
returns-in_err-feed-clause-moved g c limit output was =
    let aa = g.S.Service.answers in
    let ts = g.S.Service.tells in
    let read = moved_read aa ts limit _ _ output _ _ was c.read_once.ensures.counted c.read_once.ensures.read in
    let noted = moved_end aa ts limit _ output _ _ _ c.in_ok-outcome.ensures.end c.note_read.ensures.value in
    moved_more aa ts limit _ _ _ _ _ _ _ _ _ (moved_more aa ts limit _ _ _ _ _ _ _ _ _ read noted)
    (moved_worked aa ts limit _ output _ _ (worked_still aa ts limit _ _ c.in_err-feed.ensures.unchanged))

pub returns-then-eq-clause-moved : goal.returns-then-eq-clause-moved
returns-then-eq-clause-moved g c limit output was =
    let aa = g.S.Service.answers in
    let ts = g.S.Service.tells in
    let read = moved_read aa ts limit _ _ output _ _ was c.read_once.ensures.counted c.read_once.ensures.read in
    let noted = moved_end aa ts limit _ output _ _ _ c.in_ok-outcome.ensures.end c.note_read.ensures.value in
    moved_more aa ts limit _ _ _ _ _ _ _ _ _ read noted

pub returns-clause-moved : goal.returns-clause-moved
returns-clause-moved g c limit output was =
    let aa = g.S.Service.answers in
    let ts = g.S.Service.tells in
    let read = moved_read aa ts limit _ _ output _ _ was c.read_once.ensures.counted c.read_once.ensures.read in
    let noted = moved_end aa ts limit _ output _ _ _ c.in_ok-outcome.ensures.end c.note_read.ensures.value in
    moved_more aa ts limit _ _ _ _ _ _ _ _ _ (moved_more aa ts limit _ _ _ _ _ _ _ _ _ read noted)
    (moved_fed aa ts limit _ output _ _ c.in_ok-feed.ensures.fed)
