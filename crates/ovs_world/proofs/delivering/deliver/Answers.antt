use Rattle.std.proofs.Common.{◌+◌, inl, inr, refl, sym, subst, arith}
use Rattle.ovs_links.specs.Store.{Stored}
use Rattle.ovs_world.specs.Carrying.{IsWhole}
use Rattle.ovs_world.specs.Deliveries.{scene, Leads, BreaksOff}
use Rattle.ovs_world.specs.Leading.{IsLed}
use Rattle.ovs_world.specs.Nodes.{no_counts}
use Rattle.ovs_world.specs.declared.holding.Taken.{Taken}
use Rattle.ovs_world.proofs.Delivered.{pumped_framing, quiet_framing, after_pumping, did_pump, told_out, after_feeding, did_feed}
use Rattle.ovs_world.proofs.Broken.{err_by, breaks_hearing, feed_leads, breaks_feeding}
use Rattle.ovs_world.proofs.Led.{led_over}
use Rattle.ovs_world.proofs.Moving.{leads_none, leads_on}
use Rattle.ovs_world.proofs.Scenes.{grow_itself, grow_on}
use Rattle.ovs_world.proofs.delivering.deliver.Goals as goal

pub turns-init : goal.turns-init
turns-init c =
    let source = c.args.source.now in
    let begun = scene c.args.relays.now c.args.session.now no_counts in
    record {
      stands = c.requires.scene;
      quiet = c.requires.quiet;
      grow = grow_itself source c.args.relays.now c.requires.scene.tier;
      leads = (
        0,
        omega arith,
        subst (λ (k : Taken). Leads source 0 begun (scene c.args.relays.now c.args.session.now k)) (sym c.none-counts.ensures.value) (leads_none source begun),
      );
    }

pub pump-requires : goal.pump-requires
pump-requires c =
    let source = c.args.source.now in
    let led = subst (λ (n : Stored). IsLed source n c.turns.session) (sym c.node.ensures.value) c.turns.invariant.stands.between.led in
    record { shown = led.shown; begun = led_over source c.node.result.now c.turns.session led }

pub returns-then-in_flight-eq0-clause-scene : goal.returns-then-in_flight-eq0-clause-scene
returns-then-in_flight-eq0-clause-scene c =
    after_pumping c.args.source.now c.node.result.now c.turns.relays c.turns.session c.pump.new.self c.turns.invariant.stands c.node.ensures.value c.in_ok-pump.ensures.pumps
    c.in_ok-pump.ensures.readable c.in_ok-pump.ensures.shown

pub returns-then-in_flight-eq0-clause-delivers : goal.returns-then-in_flight-eq0-clause-delivers
returns-then-in_flight-eq0-clause-delivers c =
    let source = c.args.source.now in
    let node = c.node.result.now in
    let at = c.turns in
    let stands = at.invariant.stands in
    let t = c.pump.new.self in
    let pumps = c.in_ok-pump.ensures.pumps in
    let fed = at.invariant.leads.0 in
    let all = at.invariant.leads.1 in
    let long = c.in_flight.ensures.value in
    let none = c.if-in_flight-eq0.true in
    record {
      fed = fed + 0;
      within = omega (arith, all);
      moves = leads_on source fed 0 (scene c.args.relays.now c.args.session.now no_counts) (scene at.relays at.session at.counts) (scene at.relays t at.counts) at.invariant.leads.2
          (did_pump source node at.relays at.session t stands c.node.ensures.value pumps at.counts);
      quiet = quiet_framing at.session t (pumped_framing _ at.session t pumps) at.invariant.quiet;
      ends = inr (told_out source node at.relays at.session t stands c.node.ensures.value pumps (omega (arith, long, none)) at.counts);
    }

pub hear_all-requires : goal.hear_all-requires
hear_all-requires c = record {
  scene = after_feeding c.args.source.now c.turns.relays c.pump.new.self c.feed-fed.new.self
      (after_pumping c.args.source.now c.node.result.now c.turns.relays c.turns.session c.pump.new.self c.turns.invariant.stands c.node.ensures.value c.in_ok-pump.ensures.pumps
      c.in_ok-pump.ensures.readable c.in_ok-pump.ensures.shown)
      c.feed-fed.ensures.rest c.feed-fed.ensures.carried;
}

pub returns-in_err-hear_all-clause-grow : goal.returns-in_err-hear_all-clause-grow
returns-in_err-hear_all-clause-grow c = grow_on c.args.relays.now c.turns.relays c.hear_all.new.relays c.turns.invariant.grow c.hear_all.ensures.grow

pub returns-in_err-left-clause-grow : goal.returns-in_err-left-clause-grow
returns-in_err-left-clause-grow c = grow_on c.args.relays.now c.turns.relays c.hear_all.new.relays c.turns.invariant.grow c.hear_all.ensures.grow

pub turns-preserved : goal.turns-preserved
turns-preserved c =
    let source = c.args.source.now in
    let at = c.turns in
    let s = at.session in
    let t = c.pump.new.self in
    let u = c.feed-fed.new.self in
    let k = c.in_ok-left.field-0 in
    let fed = at.invariant.leads.0 in
    let all = at.invariant.leads.1 in
    let least = c.in_ok-left.ensures.fed.0 in
    let begun = scene c.args.relays.now c.args.session.now no_counts in
    let told = leads_on source fed 0 begun (scene at.relays s at.counts) (scene at.relays t at.counts) at.invariant.leads.2
    (did_pump source c.node.result.now at.relays s t at.invariant.stands c.node.ensures.value c.in_ok-pump.ensures.pumps at.counts) in
    let came = leads_on source (fed + 0) k begun (scene at.relays t at.counts) (scene at.relays u at.counts) told
    (did_feed source at.relays t u at.counts k (omega (arith, least)) c.feed-fed.ensures.rest c.in_ok-left.ensures.fed.1) in
    record {
      stands = c.in_ok-hear_all.ensures.scene;
      quiet = record {
        heard = c.in_ok-hear_all.ensures.heard;
        whole = subst IsWhole (sym c.in_ok-hear_all.ensures.ending) c.in_ok-left.ensures.whole;
      };
      grow = grow_on c.args.relays.now at.relays c.hear_all.new.relays at.invariant.grow c.hear_all.ensures.grow;
      leads = (
        fed + 0 + k + 0,
        omega (arith, all, least),
        leads_on source (fed + 0 + k) 0 begun (scene at.relays u at.counts) (scene c.hear_all.new.relays c.hear_all.new.session c.hear_all.new.counts) came c.in_ok-hear_all.ensures.leads,
      );
    }

pub returns-clause-delivers : goal.returns-clause-delivers
returns-clause-delivers c =
    let all = c.turns.invariant.leads.1 in
    let none = c.turns-test.false in
    record {
      fed = c.turns.invariant.leads.0;
      within = omega (arith, all);
      moves = c.turns.invariant.leads.2;
      quiet = c.turns.invariant.quiet;
      ends = inl (omega (arith, all, none));
    }

pub returns-in_err-hear_all-clause-refused : goal.returns-in_err-hear_all-clause-refused
returns-in_err-hear_all-clause-refused c =
    let source = c.args.source.now in
    let at = c.turns in
    let t = c.pump.new.self in
    let u = c.feed-fed.new.self in
    let e = c.in_err-hear_all.field-0.0 in
    let fed = at.invariant.leads.0 in
    let all = at.invariant.leads.1 in
    let begun = scene c.args.relays.now c.args.session.now no_counts in
    let told = leads_on source fed 0 begun (scene at.relays at.session at.counts) (scene at.relays t at.counts) at.invariant.leads.2
    (did_pump source c.node.result.now at.relays at.session t at.invariant.stands c.node.ensures.value c.in_ok-pump.ensures.pumps at.counts) in
    let came = feed_leads source at.relays t u at.counts at.left c.feed-fed.result c.feed-fed.ensures.rest c.feed-fed.ensures.fed c.feed-fed.ensures.refused in
    let some = came.1 in
    err_by c.from_residual-in_err-hear_all.result e (λ x. BreaksOff source c.args.n begun x c.hear_all.new.relays) c.from_residual-in_err-hear_all.ensures.1
    (breaks_hearing source c.args.n (fed + 0 + came.0) begun (scene at.relays u at.counts) e c.hear_all.new.relays (omega (arith, all, some))
    (leads_on source (fed + 0) came.0 begun (scene at.relays t at.counts) (scene at.relays u at.counts) told came.2) c.in_err-hear_all.ensures.refused)

pub returns-in_err-left-clause-refused : goal.returns-in_err-left-clause-refused
returns-in_err-left-clause-refused c =
    let source = c.args.source.now in
    let at = c.turns in
    let t = c.pump.new.self in
    let u = c.feed-fed.new.self in
    let e = c.in_err-left.field-0.0 in
    let fed = at.invariant.leads.0 in
    let all = at.invariant.leads.1 in
    let begun = scene c.args.relays.now c.args.session.now no_counts in
    let told = leads_on source fed 0 begun (scene at.relays at.session at.counts) (scene at.relays t at.counts) at.invariant.leads.2
    (did_pump source c.node.result.now at.relays at.session t at.invariant.stands c.node.ensures.value c.in_ok-pump.ensures.pumps at.counts) in
    err_by c.from_residual-in_err-left.result e (λ x. BreaksOff source c.args.n begun x c.hear_all.new.relays) c.from_residual-in_err-left.ensures.1
    (breaks_feeding source c.args.n (fed + 0) at.left begun at.relays c.hear_all.new.relays t u c.hear_all.new.session at.counts c.hear_all.new.counts e (omega (arith, all)) told
    c.feed-fed.ensures.rest c.in_ok-hear_all.ensures.leads c.in_ok-hear_all.ensures.scene c.in_ok-hear_all.ensures.heard c.in_ok-hear_all.ensures.ending c.in_err-left.ensures.refused)

pub returns-in_err-pump-clause-refused : goal.returns-in_err-pump-clause-refused
returns-in_err-pump-clause-refused c =
    let at = c.turns in
    let all = at.invariant.leads.1 in
    let source = c.args.source.now in
    let begun = scene c.args.relays.now c.args.session.now no_counts in
    let e = c.in_err-pump.field-0.0 in
    err_by c.from_residual.result e (λ x. BreaksOff source c.args.n begun x at.relays) c.from_residual.ensures.1
    (subst (λ x. BreaksOff source c.args.n begun x at.relays) (sym c.in_err-pump.ensures.memory)
    (record { fed = at.invariant.leads.0; within = omega (arith, all); at = scene at.relays at.session at.counts; moves = at.invariant.leads.2; left = inl refl }))
