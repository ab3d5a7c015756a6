use Rattle.std.proofs.Common.{rules, arith, inr, ◌≡◌, Ok, true, ◌<◌, length, ap, refl}
use Rattle.ovs_session.proofs.Served.{worked_more, worked_hold, worked_still, held_below}
use Rattle.ovs_session.proofs.Spent.{spends_more, spends_nothing, spends_a_message}
use Rattle.ovs_session.proofs.Turning.{same_at_hand, fewer_at_hand}
use Rattle.ovs_session.proofs.steps.answer_all.Goals as goal

pub loop-answered-init : goal.loop-answered-init
loop-answered-init g c =
    let n = c.args.session.now.counts in
    record { worked = worked_still g.S.Service.answers g.S.Service.tells _ _ _ refl; answered = omega arith; spent = spends_nothing 0 0 n n refl }

pub loop-answered-preserved : goal.loop-answered-preserved
loop-answered-preserved g c =
    let aa = g.S.Service.answers in
    let ts = g.S.Service.tells in
    let limit = c.args.limits.most_unsent in
    let first = c.args.session.now in
    let was = c.loop-answered.session in
    let held = c.hold.new.self in
    let now = c.answer_held.new.session in
    let inv = c.loop-answered.invariant in
    let short : length was.unsent < limit = search rules in
    let below = held_below limit was held c.hold.ensures.held short in
    let told = spends_nothing 0 0 held.counts now.counts (ap (λ z. z.counts) c.answer_held.ensures.rest) in
    let taken = spends_a_message was held c.hold.ensures.held in
    let same = same_at_hand was held c.hold.ensures.held in
    let some : c.hold.result ≡ Ok true = search rules in
    let fewer = fewer_at_hand held now (c.hold.ensures.some some) c.in_ok-answer_held.ensures.none (ap (λ z. z.framing) c.answer_held.ensures.rest) in
    let before = inv.answered in
    record {
      worked = worked_more aa ts limit first held now
          (worked_more aa ts limit first was held inv.worked (worked_hold aa ts limit was held c.hold.ensures.held))
          (c.answer_held.ensures.worked limit below);
      answered = omega arith;
      spent = spends_more 0 c.loop-answered._answered 0 1 first.counts was.counts now.counts inv.spent
          (spends_more 0 1 0 0 was.counts held.counts now.counts taken told);
    }

pub returns-in_err-hold-clause-worked : goal.returns-in_err-hold-clause-worked
returns-in_err-hold-clause-worked g c =
    worked_more g.S.Service.answers g.S.Service.tells _ _ _ _ c.loop-answered.invariant.worked
    (worked_hold g.S.Service.answers g.S.Service.tells _ _ _ c.hold.ensures.held)

pub returns-then-not-branch-clause-worked : goal.returns-then-not-branch-clause-worked
returns-then-not-branch-clause-worked g c =
    worked_more g.S.Service.answers g.S.Service.tells _ _ _ _ c.loop-answered.invariant.worked
    (worked_hold g.S.Service.answers g.S.Service.tells _ _ _ c.hold.ensures.held)

pub returns-in_err-answer_held-clause-worked : goal.returns-in_err-answer_held-clause-worked
returns-in_err-answer_held-clause-worked g c =
    let aa = g.S.Service.answers in
    let ts = g.S.Service.tells in
    let limit = c.args.limits.most_unsent in
    let was = c.loop-answered.session in
    let short : length was.unsent < limit = search rules in
    worked_more aa ts limit _ _ _
    (worked_more aa ts limit _ _ _ c.loop-answered.invariant.worked (worked_hold aa ts limit was _ c.hold.ensures.held))
    (c.answer_held.ensures.worked limit (held_below limit was _ c.hold.ensures.held short))

pub returns-clause-more : goal.returns-clause-more
returns-clause-more g c e =
    let before = c.loop-answered.invariant.answered in
    let some = c.args.limits.some in
    let all = c.loop-answered-test.false in
    inr (omega arith)
