use Rattle.ovs_session.proofs.Moved.{moved_worked, moved_fed, moved_still}
use Rattle.ovs_session.proofs.Served.{worked_still}
use Rattle.ovs_session.proofs.steps.take_in.Goals as goal

pub returns-in_err-feed-clause-moved : goal.returns-in_err-feed-clause-moved
returns-in_err-feed-clause-moved g c limit output =
    moved_worked g.S.Service.answers g.S.Service.tells limit _ output _ _
    (worked_still g.S.Service.answers g.S.Service.tells limit _ _ c.in_err-feed.ensures.unchanged)

pub returns-then-not-is_fed-clause-moved : goal.returns-then-not-is_fed-clause-moved
returns-then-not-is_fed-clause-moved g c limit output =
    moved_fed g.S.Service.answers g.S.Service.tells limit _ output _ _ c.in_ok-feed.ensures.fed

pub returns-then-has_fault-clause-moved : goal.returns-then-has_fault-clause-moved
returns-then-has_fault-clause-moved g c limit output = moved_still g.S.Service.answers g.S.Service.tells limit _ output _

pub returns-then-not-may_read-clause-moved : goal.returns-then-not-may_read-clause-moved
returns-then-not-may_read-clause-moved g c limit output = moved_still g.S.Service.answers g.S.Service.tells limit _ output _
