use Rattle.std.proofs.Common.{refl, subst}
use Rattle.ovs_links.specs.Store.{Stored, IsStore}
use Rattle.ovs_world.specs.Refusals.{refusal_of_trim}
use Rattle.ovs_world.specs.Steps.{RefusesTrim}
use Rattle.ovs_world.specs.Worlds.{WorldValue}
use Rattle.ovs_world.proofs.Broken.{err_by}
use Rattle.ovs_world.proofs.Longer.{trim_refused, world_same, world_trimmed}
use Rattle.ovs_world.proofs.Settled.{settled_beside}
use Rattle.ovs_world.proofs.world.World.trim.Goals as goal

pub returns-in_err-trim-clause-refused : goal.returns-in_err-trim-clause-refused
returns-in_err-trim-clause-refused c =
    let w = c.self.inside in
    let fault = c.in_err-trim.field-0.0 in
    let old : WorldValue = record { source = w.source; fresh = w.fresh; relays = w.relays.items; sessions = w.sessions.items } in
    let new : WorldValue = record { source = c.trim.new.self; fresh = w.fresh; relays = w.relays.items; sessions = w.sessions.items } in
    rw (← c.self.view_is) (err_by c.from_residual.result (refusal_of_trim fault) (λ e. RefusesTrim old c.args.id e new) c.from_residual.ensures.1
    (fault, refl, record { trims = c.in_err-trim.ensures.outcome; fresh = refl; relays = refl; sessions = refl }))

pub invariant_of-self : goal.invariant_of-self
invariant_of-self c =
    let w = c.self.inside in
    world_same w.source c.trim.new.self w.fresh w.fresh w.relays.items w.sessions.items c.self.invariant
    (trim_refused w.source c.trim.new.self c.args.id c.in_err-trim.field-0.0 c.in_err-trim.ensures.outcome)

pub invariant_of-self-2 : goal.invariant_of-self-2
invariant_of-self-2 c =
    let w = c.self.inside in
    world_trimmed w.source c.trim.new.self w.fresh w.relays.items w.sessions.items c.args.id c.in_ok-trim.field-0 c.self.invariant c.in_ok-trim.ensures.outcome c.in_ok-trim.ensures.history
    c.store.ensures.source (subst (λ (s : Stored). IsStore s) c.store.ensures.value c.head.ensures.store)

pub returns-clause-renews : goal.returns-clause-renews
returns-clause-renews c = rw (← c.self.view_is) (c.in_ok-trim.field-0, record { trims = c.in_ok-trim.ensures.outcome; fresh = refl; relays = refl; sessions = refl })

pub returns-clause-settled : goal.returns-clause-settled
returns-clause-settled c =
    let w = c.self.inside in
    rw (← c.self.view_is) (λ all. settled_beside w.source c.trim.new.self w.relays.items c.store.ensures.source (subst (λ (s : Stored). IsStore s) c.store.ensures.value c.head.ensures.store) all)
