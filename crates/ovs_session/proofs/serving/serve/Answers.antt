use Rattle.std.proofs.Common.{arith, rules, ◌<◌, Err, ap, sym, ◌∙◌, refl}
use Rattle.ovs_session.specs.Moving.{ended_by}
use Rattle.ovs_session.proofs.Ends.{no_error}
use Rattle.ovs_session.proofs.Moved.{moved_more, moved_still}
use Rattle.ovs_session.proofs.Turning.{one_turn_more, turn_counted, counted_still, counted_more, counted_within}
use Rattle.ovs_session.proofs.serving.serve.Goals as goal

pub loop-turned-init : goal.loop-turned-init
loop-turned-init g c = record {
  moved = moved_still g.S.Service.answers g.S.Service.tells _ _ _ _;
  over = λ e is. (refl, refl, refl);
  first = λ e is. refl;
  goes_on = λ is. is;
  faultless = λ is. (refl, refl);
  turns = λ is. refl;
  counted = counted_still _ _ (refl, refl, refl);
  spent = omega arith;
}

pub loop-turned-preserved : goal.loop-turned-preserved
loop-turned-preserved g c =
    let inv = c.loop-turned.invariant in
    let turn = c.turn.ensures in
    let before = inv.spent in
    let one = turn.spent.0 in
    record {
      moved = moved_more g.S.Service.answers g.S.Service.tells _ _ _ _ _ _ _ _ _ _ inv.moved turn.moved;
      over = λ e is. absurd (no_error _ e (sym c.in_default.is ∙ (turn.over e (ap (λ z. z.ended) (inv.over e is).0 ∙ is)).0));
      first = λ e is. absurd (no_error _ e (sym c.in_default.is ∙ (turn.over e (ap (λ z. z.ended) (inv.over e is).0 ∙ is)).0));
      goes_on = λ is. turn.ends (inv.goes_on is) ∙ ap ended_by c.in_default.is;
      faultless = λ is.
          let now = inv.goes_on is in
          let before = inv.faultless is in (
            (turn.read_faults now).others (λ bad. no_error _ _ (sym c.in_default.is ∙ bad)) ∙ before.0,
            (turn.write_faults now).others (λ bad. no_error _ _ (sym c.in_default.is ∙ bad)) ∙ before.1,
          );
      turns = λ is. one_turn_more g.S.Service.answers g.S.Service.tells g.S.Service.may_answer g.S.Service.is_answered _ _ _ _ _ c.turn.new.service _ _ _
          (inv.turns is) c.in_default.is (turn.turned (inv.goes_on is));
      counted = counted_more _ 1 _ _ _ inv.counted
          (turn_counted g.S.Service.answers g.S.Service.tells g.S.Service.may_answer g.S.Service.is_answered _ _ _ c.loop-turned.session.ended _ _ turn.turned turn.over);
      spent = omega arith;
    }

pub returns-in-Err-clause-moved : goal.returns-in-Err-clause-moved
returns-in-Err-clause-moved g c =
    moved_more g.S.Service.answers g.S.Service.tells _ _ _ _ _ _ _ _ _ _ c.loop-turned.invariant.moved c.turn.ensures.moved

pub returns-in-Err-clause-turns : goal.returns-in-Err-clause-turns
returns-in-Err-clause-turns g c is spent =
    absurd ((c.turn.ensures.answer (c.loop-turned.invariant.goes_on is)).unspent (c.in-Err.is ∙ ap Err spent))

pub returns-in-Err-clause-counted : goal.returns-in-Err-clause-counted
returns-in-Err-clause-counted g c =
    let inv = c.loop-turned.invariant in
    let turn = c.turn.ensures in
    let below : c.loop-turned._turned < c.args.most_turns = search rules in
    counted_within _ _ _ _
    (counted_more _ 1 _ _ _ inv.counted
    (turn_counted g.S.Service.answers g.S.Service.tells g.S.Service.may_answer g.S.Service.is_answered _ _ _ c.loop-turned.session.ended _ _ turn.turned turn.over))
    (omega arith)
