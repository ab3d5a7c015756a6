use Rattle.std.proofs.Common.{◌∙◌, Ok, refl, ap}
use Rattle.ovs_world.specs.Deliveries.{scene, Hear, StopsHearingAll}
use Rattle.ovs_world.proofs.Broken.{err_by, stops_later}
use Rattle.ovs_world.proofs.Delivered.{hears_fewer}
use Rattle.ovs_world.proofs.Moving.{leads_none, leads_one, leads_on}
use Rattle.ovs_world.proofs.Scenes.{grow_itself, grow_on}
use Rattle.ovs_world.proofs.delivering.hear_all.Goals as goal

pub loop-init : goal.loop-init
loop-init c = record {
  stands = c.requires.scene;
  grow = grow_itself c.args.source.now c.args.relays.now c.requires.scene.tier;
  ending = refl;
  leads = leads_none c.args.source.now (scene c.args.relays.now c.args.session.now c.args.counts.now);
}

pub returns-in_err-hear_next-clause-grow : goal.returns-in_err-hear_next-clause-grow
returns-in_err-hear_next-clause-grow c = grow_on c.args.relays.now c.loop.relays c.hear_next.new.relays c.loop.invariant.grow c.hear_next.ensures.grow

pub loop-smaller : goal.loop-smaller
loop-smaller c =
    let h = c.in_ok-hear_next.ensures.heard (ap Ok c.if-not-branch.false) in
    hears_fewer _ c.loop.session c.hear_next.new.session h.0 h.1.0

pub loop-preserved : goal.loop-preserved
loop-preserved c =
    let h = c.in_ok-hear_next.ensures.heard (ap Ok c.if-not-branch.false) in
    let begun = scene c.args.relays.now c.args.session.now c.args.counts.now in
    let before = scene c.loop.relays c.loop.session c.loop.counts in
    let after = scene c.hear_next.new.relays c.hear_next.new.session c.hear_next.new.counts in
    record {
      stands = c.in_ok-hear_next.ensures.scene;
      grow = grow_on c.args.relays.now c.loop.relays c.hear_next.new.relays c.loop.invariant.grow c.hear_next.ensures.grow;
      ending = c.in_ok-hear_next.ensures.ending ∙ c.loop.invariant.ending;
      leads = leads_on c.args.source.now 0 0 begun before after c.loop.invariant.leads (leads_one c.args.source.now (Hear h.0) before after 0 refl h.1);
    }

pub returns-then-not-branch-clause-ending : goal.returns-then-not-branch-clause-ending
returns-then-not-branch-clause-ending c = c.in_ok-hear_next.ensures.ending ∙ c.loop.invariant.ending

pub returns-in_err-hear_next-clause-refused : goal.returns-in_err-hear_next-clause-refused
returns-in_err-hear_next-clause-refused c =
    let source = c.args.source.now in
    let e = c.in_err-hear_next.field-0.0 in
    let begun = scene c.args.relays.now c.args.session.now c.args.counts.now in
    let before = scene c.loop.relays c.loop.session c.loop.counts in
    err_by c.from_residual.result e (λ x. StopsHearingAll source begun x c.hear_next.new.relays) c.from_residual.ensures.1
    (stops_later source begun before e c.hear_next.new.relays c.loop.invariant.leads c.in_err-hear_next.ensures.refused)
