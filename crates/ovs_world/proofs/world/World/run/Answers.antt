use Rattle.std.proofs.Common.{suc, List, take, drop, inr, Ok, sym, subst, add-one}
use Rattle.std.proofs.Math.Seq.{take-suc}
use Rattle.ovs_world.specs.Headline.{IsFaithful}
use Rattle.ovs_world.specs.Steps.{Steps, IsRun, RefusesRun}
use Rattle.ovs_world.specs.Worlds.{WorldValue, AreSettled, new_world, empty_store}
use Rattle.ovs_world.specs.declared.event.Event.{Event}
use Rattle.ovs_world.proofs.Broken.{err_by}
use Rattle.ovs_world.proofs.Faithful.{faithful, empty_tier}
use Rattle.ovs_world.proofs.Running.{run_on, new_settled, at_place}
use Rattle.ovs_world.proofs.world.World.run.Goals as goal

pub loop-event-init : goal.loop-event-init
loop-event-init c =
    let schema = c.args.schema.now in
    let is = sym c.in_ok-world.ensures.value in
    record {
      run = c.in_ok-world.ensures.value;
      settled = subst AreSettled is (new_settled schema c.args.relays);
      faithful = subst (λ (w : WorldValue). IsFaithful w.source w.relays) is (faithful (empty_store schema) (new_world schema c.args.relays).relays (empty_tier schema c.args.relays));
    }

pub loop-event-preserved : goal.loop-event-preserved
loop-event-preserved c =
    let schema = c.args.schema.now in
    let es = c.args.events.now in
    let i = c.loop-event.event-index in
    let e = c.event-item.result in
    let v = c.step.new.self in
    let begun = new_world schema c.args.relays in
    record {
      run = rw add-one (subst (λ (xs : List Event). IsRun begun xs v) (sym (take-suc es i e c.loop-event-test.true))
          (run_on begun (take i es) c.loop-event.world _ c.in_ok-step.field-0 v c.loop-event.invariant.run
          (subst (λ (x : Event). Steps c.loop-event.world x (Ok c.in_ok-step.field-0) v) c.event-item.is c.in_ok-step.ensures.steps)));
      settled = c.in_ok-step.ensures.settled c.loop-event.invariant.settled;
      faithful = subst (λ (w : WorldValue). IsFaithful w.source w.relays) c.world.view_is (faithful c.world.inside.source c.world.inside.relays.items c.world.invariant.tier);
    }

pub returns-in_err-step-clause-refused : goal.returns-in_err-step-clause-refused
returns-in_err-step-clause-refused c =
    let es = c.args.events.now in
    let i = c.loop-event.event-index in
    let e = c.event-item.result in
    let f = c.in_err-step.field-0.0 in
    err_by c.from_residual-in_err-step.result f (RefusesRun c.args.schema.now c.args.relays es) c.from_residual-in_err-step.ensures.1 (inr (record {
      before = take i es;
      event = e;
      behind = drop (suc i) es;
      place = at_place es i e c.loop-event-test.true c.event-item.is;
      reached = c.loop-event.world;
      run = c.loop-event.invariant.run;
      left = c.step.new.self;
      refused = c.in_err-step.ensures.steps;
    }))
