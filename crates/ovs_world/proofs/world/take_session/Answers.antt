use Rattle.std.proofs.Common.{◌≡◌, ◌-◌, true, false, Option, Some, None, IfSome, slice_set, refl, sym, ◌∙◌, ap, subst, arith}
use Rattle.ovs_world.specs.Worlds.{GoesOn, IsOpen}
use Rattle.ovs_world.specs.declared.sim_session.SimSession.{SimSession}
use Rattle.ovs_world.proofs.Opened.{any_slot, goes_here, none_is, open_is, open_item}
use Rattle.ovs_world.proofs.world.take_session.Goals as goal

some_by : (r : Option SimSession) (P : SimSession → Type 0) → ((s : SimSession) → r ≡ Some s → P s) → IfSome r P
some_by (Some s) P all = all s (λ i. Some s)
some_by None P all = tt

false_true : false ≡ true → ⊥
false_true e = cc

pub is_open-requires : goal.is_open-requires
is_open-requires c = record {
  stands = open_item (IsOpen c.args.source.now c.args.relays.now) c.args.sessions.now (c.args.number - 1) c.index-sessions-number.result c.requires.stand
      (omega (arith, c.if-number-eq0.false, c.if-number-sessions.false));
}

pub returns-then-not-is_open-clause-none : goal.returns-then-not-is_open-clause-none
returns-then-not-is_open-clause-none c is = (
  none_is c.args.source.now c.args.relays.now c.args.sessions.now c.args.number c.index-sessions-number.result (λ goes. false_true (c.if-not-is_open.ensures.value.1 goes)),
  refl,
)

pub returns-clause-taken : goal.returns-clause-taken
returns-clause-taken c = some_by c.take.result _ (λ s is. (
    let at = open_is c.args.sessions.now c.args.number c.index-sessions-number-2.result s (omega (arith, c.if-number-eq0.false)) (omega (arith, c.if-number-sessions.false)) (sym c.take.ensures.value ∙ is) in (
      (at, goes_here c.args.source.now c.args.relays.now c.args.sessions.now c.args.number c.index-sessions-number.result s at (c.if-not-is_open.ensures.value.0 refl)),
      ap (slice_set c.args.sessions.now (c.args.number - 1)) c.take.ensures.after,
    )))

pub returns-clause-none : goal.returns-clause-none
returns-clause-none c is =
    let i = c.args.number - 1 in
    let same = any_slot c.args.sessions.now i c.index-sessions-number.result c.index-sessions-number-2.result (omega (arith, c.if-number-eq0.false, c.if-number-sessions.false)) in
    absurd (subst (GoesOn c.args.source.now c.args.relays.now) (same ∙ sym c.take.ensures.value ∙ is) (c.if-not-is_open.ensures.value.0 refl))
