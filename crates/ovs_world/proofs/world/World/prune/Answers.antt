use Rattle.std.proofs.Common.{◌≡◌, ◌<◌, ◌≤◌, ◌-◌, inr, length, slice_set, refl, sym, ◌∙◌, subst, arith}
use Rattle.std.proofs.lemmas.Result.{IfOk-weaker, on_ok_weaker}
use Rattle.ovs_links.specs.Settling.{KeepsLinks, after_settle}
use Rattle.ovs_links.specs.Store.{Stored}
use Rattle.ovs_world.specs.Nodes.{DropsOld, node_at}
use Rattle.ovs_world.specs.Steps.{RefusesPrune}
use Rattle.ovs_world.specs.Worlds.{WorldValue, Prunes}
use Rattle.ovs_world.specs.declared.error.WorldError.{WorldError}
use Rattle.ovs_world.proofs.Broken.{if_err_weaker}
use Rattle.ovs_world.proofs.Opened.{relay_at}
use Rattle.ovs_world.proofs.Pruned.{tier_after, world_after}
use Rattle.ovs_world.proofs.Settled.{settle_set, all_settled}
use Rattle.ovs_world.proofs.world.World.prune.Goals as goal

pub invariant_of-self : goal.invariant_of-self
invariant_of-self c =
    let w = c.self.inside in
    let r = c.args.relay in
    let long = c.len.ensures in
    let ok = w.relays.ok.0 in
    let s = c.index_mut.result.now in
    let place : (0 < r) × (r ≤ length w.relays.items) = (omega (arith, c.if-relay-eq0.false), omega (arith, c.if-relay-len.false, long, ok)) in
    let is : s ≡ node_at w.source w.relays.items r = c.index_mut.ensures.value ∙ relay_at w.source w.relays.items r s place.0 place.1 in
    world_after w.source w.relays.items r place s c.prune_store.new.store is c.self.invariant.tier (c.prune_store.ensures.node w.source) c.prune_store.ensures.grows w.fresh w.sessions.items c.self.invariant

pub returns-clause-prunes : goal.returns-clause-prunes
returns-clause-prunes c =
    let w = c.self.inside in
    let r = c.args.relay in
    let long = c.len.ensures in
    let ok = w.relays.ok.0 in
    let s = c.index_mut.result.now in
    let t = c.prune_store.new.store in
    let place : (0 < r) × (r ≤ length w.relays.items) = (omega (arith, c.if-relay-eq0.false), omega (arith, c.if-relay-len.false, long, ok)) in
    let is : s ≡ node_at w.source w.relays.items r = c.index_mut.ensures.value ∙ relay_at w.source w.relays.items r s place.0 place.1 in
    let old : WorldValue = record { source = w.source; fresh = w.fresh; relays = w.relays.items; sessions = w.sessions.items } in
    let new : WorldValue = record { source = w.source; fresh = w.fresh; relays = slice_set w.relays.items (r - 1) t; sessions = w.sessions.items } in
    rw (← c.self.view_is) (IfOk-weaker c.prune_store.result (λ n. DropsOld (after_settle s) n t) (λ n. Prunes old r n new)
    (λ n d. record { node = place; store = t; drops = subst (λ (x : Stored). DropsOld (after_settle x) n t) is d; world = refl }) c.prune_store.ensures.drops)

pub returns-clause-settled : goal.returns-clause-settled
returns-clause-settled c =
    let w = c.self.inside in
    let r = c.args.relay in
    let long = c.len.ensures in
    let ok = w.relays.ok.0 in
    let s = c.index_mut.result.now in
    let t = c.prune_store.new.store in
    let place : (0 < r) × (r ≤ length w.relays.items) = (omega (arith, c.if-relay-eq0.false), omega (arith, c.if-relay-len.false, long, ok)) in
    let is : s ≡ node_at w.source w.relays.items r = c.index_mut.ensures.value ∙ relay_at w.source w.relays.items r s place.0 place.1 in
    let tier = tier_after w.source w.relays.items r place s t is c.self.invariant.tier (c.prune_store.ensures.node w.source) c.prune_store.ensures.grows in
    rw (← c.self.view_is) (on_ok_weaker c.prune_store.result
    (λ done all. all_settled w.source w.relays.items (slice_set w.relays.items (r - 1) t) tier (settle_set w.relays.items (r - 1) t (λ x. inr (λ store. done))) all) c.prune_store.ensures.settled)

pub returns-clause-refused : goal.returns-clause-refused
returns-clause-refused c =
    let w = c.self.inside in
    let r = c.args.relay in
    let long = c.len.ensures in
    let ok = w.relays.ok.0 in
    let s = c.index_mut.result.now in
    let t = c.prune_store.new.store in
    let place : (0 < r) × (r ≤ length w.relays.items) = (omega (arith, c.if-relay-eq0.false), omega (arith, c.if-relay-len.false, long, ok)) in
    let is : s ≡ node_at w.source w.relays.items r = c.index_mut.ensures.value ∙ relay_at w.source w.relays.items r s place.0 place.1 in
    let old : WorldValue = record { source = w.source; fresh = w.fresh; relays = w.relays.items; sessions = w.sessions.items } in
    let new : WorldValue = record { source = w.source; fresh = w.fresh; relays = slice_set w.relays.items (r - 1) t; sessions = w.sessions.items } in
    rw (← c.self.view_is) (if_err_weaker c.prune_store.result
    (λ e m. subst (λ (x : WorldError). RefusesPrune old r x new) (sym m.0) (record { node = place; store = t; keeps = subst (λ (x : Stored). KeepsLinks x t) is m.1; world = refl })) c.prune_store.ensures.memory)
