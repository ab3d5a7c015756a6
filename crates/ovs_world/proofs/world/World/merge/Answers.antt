use Rattle.std.proofs.Common.{◌≡◌, ◌-◌, ◌++◌, List, length, take, drop, refl, sym, subst, arith}
use Rattle.std.proofs.lemmas.Result.{on_ok_weaker}
use Rattle.ovs_links.specs.Store.{Stored}
use Rattle.ovs_world.specs.Nodes.{IsTier, Grow, LeavesMergeOfNodes}
use Rattle.ovs_world.specs.Steps.{RefusesMerge}
use Rattle.ovs_world.specs.Worlds.{WorldValue, AreTwo}
use Rattle.ovs_world.specs.declared.error.WorldError.{WorldError}
use Rattle.ovs_world.proofs.Broken.{if_err_weaker}
use Rattle.ovs_world.proofs.Merged.{world_grown}
use Rattle.ovs_world.proofs.Opened.{lent}
use Rattle.ovs_world.proofs.Scenes.{length_grow}
use Rattle.ovs_world.proofs.Settled.{Settle, stays_settled, settle_set, all_settled}
use Rattle.ovs_world.proofs.world.World.merge.Goals as goal

pub invariant_of-self : goal.invariant_of-self
invariant_of-self c =
    let w = c.self.inside in
    let ts = c.merge_nodes.new.relays in
    let tier : IsTier w.source ts = subst (λ (x : Stored). IsTier x ts) c.store.ensures.value c.merge_nodes.ensures.tier in
    let grow : Grow w.relays.items ts = subst (λ (x : List Stored). Grow x ts) c.deref_mut.ensures.value c.merge_nodes.ensures.grow in
    let us = take w.relays.len (ts ++ drop (length ts) w.relays.items) in
    let back : us ≡ ts = lent ts w.relays.items w.relays.len (drop (length ts) w.relays.items) w.relays.ok.0 (sym (length_grow w.relays.items ts grow)) in
    world_grown w.source w.fresh w.relays.items ts us w.sessions.items c.self.invariant tier grow back

pub returns-clause-settled : goal.returns-clause-settled
returns-clause-settled c =
    let w = c.self.inside in
    let ts = c.merge_nodes.new.relays in
    let tier : IsTier w.source ts = subst (λ (x : Stored). IsTier x ts) c.store.ensures.value c.merge_nodes.ensures.tier in
    let grow : Grow w.relays.items ts = subst (λ (x : List Stored). Grow x ts) c.deref_mut.ensures.value c.merge_nodes.ensures.grow in
    let us = take w.relays.len (ts ++ drop (length ts) w.relays.items) in
    let back : us ≡ ts = lent ts w.relays.items w.relays.len (drop (length ts) w.relays.items) w.relays.ok.0 (sym (length_grow w.relays.items ts grow)) in
    rw (← c.self.view_is) (on_ok_weaker c.merge_nodes.result
    (λ m all.
    (let from : Settle c.deref_mut.result.now ts = subst (Settle c.deref_mut.result.now) (sym m.1) (settle_set c.deref_mut.result.now (c.args.into - 1) _ (λ s. stays_settled s _ _ refl)) in
    let here : Settle w.relays.items ts = subst (λ (x : List Stored). Settle x ts) c.deref_mut.ensures.value from in
    all_settled w.source w.relays.items us (subst (IsTier w.source) (sym back) tier) (subst (Settle w.relays.items) (sym back) here) all)) c.merge_nodes.ensures.merged)

pub returns-clause-refused : goal.returns-clause-refused
returns-clause-refused c =
    let w = c.self.inside in
    let ts = c.merge_nodes.new.relays in
    let grow : Grow w.relays.items ts = subst (λ (x : List Stored). Grow x ts) c.deref_mut.ensures.value c.merge_nodes.ensures.grow in
    let us = take w.relays.len (ts ++ drop (length ts) w.relays.items) in
    let back : us ≡ ts = lent ts w.relays.items w.relays.len (drop (length ts) w.relays.items) w.relays.ok.0 (sym (length_grow w.relays.items ts grow)) in
    let old : WorldValue = record { source = w.source; fresh = w.fresh; relays = w.relays.items; sessions = w.sessions.items } in
    let new : WorldValue = record { source = w.source; fresh = w.fresh; relays = us; sessions = w.sessions.items } in
    let long = c.len-count.ensures in
    let ok = w.relays.ok.0 in
    let two : AreTwo old c.args.into c.args.from = (
      (omega (arith, c.if-into-eq0.false), omega (arith, c.if-into-count.false, long, ok)),
      omega (arith, c.if-from-count.false, long, ok),
      λ e. omega (arith, e, c.if-into-from.false),
    ) in
    rw (← c.self.view_is) (if_err_weaker c.merge_nodes.result
    (λ e m.
    (let first = subst (λ (x : Stored). LeavesMergeOfNodes x c.deref_mut.result.now c.args.into c.args.from ts) c.store.ensures.value m.1 in
    let second = subst (λ (x : List Stored). LeavesMergeOfNodes w.source x c.args.into c.args.from ts) c.deref_mut.ensures.value first in
    let third = subst (LeavesMergeOfNodes w.source w.relays.items c.args.into c.args.from) (sym back) second in
    subst (λ (x : WorldError). RefusesMerge old c.args.into c.args.from x new) (sym m.0) (record { nodes = two; leaves = third; world = refl }))) c.merge_nodes.ensures.memory)
