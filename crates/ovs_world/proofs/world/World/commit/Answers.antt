use Rattle.std.proofs.Common.{Ok, map, refl, subst}
use Rattle.serde_json.specs.View.{view}
use Rattle.ovs_locks.specs.LockTable.{Locks}
use Rattle.ovs_links.specs.Store.{Stored, IsStore}
use Rattle.ovs_source.specs.Transacting.{TransactsTo}
use Rattle.ovs_world.proofs.Longer.{transacted, refused_same, world_committed, world_same}
use Rattle.ovs_world.proofs.Settled.{settled_beside}
use Rattle.ovs_world.proofs.world.World.commit.Goals as goal

pub invariant_of-self : goal.invariant_of-self
invariant_of-self c =
    let w = c.self.inside in
    world_same w.source c.transact.new.self w.fresh c.transact.new.fresh w.relays.items w.sessions.items c.self.invariant
    (refused_same w.source c.transact.new.self w.fresh c.transact.new.fresh _ c.in_err-outcome.field-0.0 c.in_err-outcome.ensures.outcome)

pub invariant_of-self-2 : goal.invariant_of-self-2
invariant_of-self-2 c =
    let w = c.self.inside in
    let t = c.transact.new.self in
    world_committed w.source t w.fresh c.transact.new.fresh w.relays.items w.sessions.items c.in_ok-outcome.outcome.link c.self.invariant
    (transacted w.source t w.fresh c.transact.new.fresh _ c.in_ok-outcome.outcome c.in_ok-outcome.ensures.outcome) c.in_ok-outcome.ensures.history
    c.store.ensures.source (subst (λ (s : Stored). IsStore s) c.store.ensures.value c.head.ensures.store)

pub returns-clause-commits : goal.returns-clause-commits
returns-clause-commits c =
    let w = c.self.inside in
    let operations = map view c.args.operations.now in
    rw (← c.self.view_is) (
      c.in_ok-outcome.outcome.link,
      record {
        transacts = subst (λ (locks : Locks). TransactsTo w.source w.fresh (record { session = 0; operations = operations; id = c.args.id; locks = locks }) (Ok c.in_ok-outcome.outcome) c.transact.new.self c.transact.new.fresh) c.new-locks.ensures.value c.in_ok-outcome.ensures.outcome;
        relays = refl;
        sessions = refl;
      },
    )

pub returns-clause-settled : goal.returns-clause-settled
returns-clause-settled c =
    let w = c.self.inside in
    rw (← c.self.view_is) (λ all. settled_beside w.source c.transact.new.self w.relays.items c.store.ensures.source (subst (λ (s : Stored). IsStore s) c.store.ensures.value c.head.ensures.store) all)
