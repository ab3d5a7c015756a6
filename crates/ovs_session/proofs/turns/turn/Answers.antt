use Rattle.ovs_session.proofs.Ends.{answer_noted}
use Rattle.ovs_session.proofs.Moved.{moved_more, moved_noted, moved_still}
use Rattle.ovs_session.proofs.Turning.{turn_noted}
use Rattle.ovs_session.proofs.turns.turn.Goals as goal

pub returns-in-Some-clause-moved : goal.returns-in-Some-clause-moved
returns-in-Some-clause-moved g c = moved_still g.S.Service.answers g.S.Service.tells _ _ _ _

pub returns-clause-moved : goal.returns-clause-moved
returns-clause-moved g c =
    let aa = g.S.Service.answers in
    let ts = g.S.Service.tells in
    moved_more aa ts _ _ _ _ _ _ _ _ _ _ c.go_on-turned.ensures.moved (moved_noted aa ts _ _ _ _ _ _ c.note.ensures.value)

pub returns-clause-answer : goal.returns-clause-answer
returns-clause-answer g c was =
    let on = c.go_on-turned.ensures in
    answer_noted g.S.Service.refuses _ _ _ _ _ _ _ _ _ c.note.ensures.value on.closed on.bad on.written on.idle on.told on.gone on.epoch on.unspent

pub returns-clause-turned : goal.returns-clause-turned
returns-clause-turned g c was =
    turn_noted g.S.Service.answers g.S.Service.tells g.S.Service.may_answer g.S.Service.is_answered _ _ _ _ _ _ _ c.note.ensures.value
    c.go_on-turned.ensures.turned
