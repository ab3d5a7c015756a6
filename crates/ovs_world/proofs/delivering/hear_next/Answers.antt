use Rattle.std.proofs.Common.{rules, ◌-◌, inr, IfSome, slice_set, sym, ap, subst}
use Rattle.ovs_links.specs.Sets.{AllOf, Holds}
use Rattle.ovs_links.specs.Store.{Stored}
use Rattle.ovs_world.specs.Deliveries.{StopsHearing, TakesSome}
use Rattle.ovs_world.specs.Leading.{IsLed}
use Rattle.ovs_world.specs.Nodes.{IsNode, folded_in, node_at}
use Rattle.ovs_world.specs.Sessions.{HearsNext}
use Rattle.ovs_world.proofs.Broken.{err_by, unheard_stops}
use Rattle.ovs_world.proofs.Delivered.{hears_ends, hears_ending, at_is_node, at_node, after_hearing, did_hear}
use Rattle.ovs_world.proofs.Scenes.{node_of, grow_itself, grow_set, tier_set}
use Rattle.ovs_world.proofs.delivering.hear_next.Goals as goal

pub hear_next-requires : goal.hear_next-requires
hear_next-requires c =
    let stands = c.requires.scene in
    record { led = (c.args.source.now, subst (λ (n : Stored). IsLed c.args.source.now n c.args.session.now) (sym c.node-followed.ensures.value) stands.between.led) }

pub returns-in_err-links-clause-grow : goal.returns-in_err-links-clause-grow
returns-in_err-links-clause-grow c = grow_itself c.args.source.now c.args.relays.now c.requires.scene.tier

pub returns-in_default-clause-grow : goal.returns-in_default-clause-grow
returns-in_default-clause-grow c = grow_itself c.args.source.now c.args.relays.now c.requires.scene.tier

pub hold-requires-clause-node : goal.hold-requires-clause-node
hold-requires-clause-node c =
    let source = c.args.source.now in
    let stands = c.requires.scene in
    let node_is = c.node-followed.ensures.value in
    let s = c.args.session.now in
    let t = c.hear_next.new.self in
    let is_node = subst (IsNode source) (sym node_is) (node_of source c.args.relays.now stands.tier s.upstream) in
    let led = subst (λ (n : Stored). IsLed source n s) (sym node_is) stands.between.led in
    let next = subst (λ x. IfSome x (λ links. HearsNext (folded_in c.node-followed.result.now) s links.items t)) c.in-Some.is c.in_ok-links.ensures.heard in
    let leads = subst (λ x. IfSome x (λ links. AllOf (Holds source.links) links.items × IsLed source c.node-followed.result.now t)) c.in-Some.is
    (c.in_ok-links.ensures.led source is_node led) in
    let same = (hears_ends (folded_in c.node-followed.result.now) s t c.in-Some.links.items next).0 in
    let relay = at_is_node source c.args.relays.now s t stands same c.index-relays-session.result in
    (source, stands.tier.store, relay, leads.0)

pub returns-in_err-told-clause-tier : goal.returns-in_err-told-clause-tier
returns-in_err-told-clause-tier c =
    let source = c.args.source.now in
    let stands = c.requires.scene in
    let node_is = c.node-followed.ensures.value in
    let s = c.args.session.now in
    let t = c.hear_next.new.self in
    let is_node = subst (IsNode source) (sym node_is) (node_of source c.args.relays.now stands.tier s.upstream) in
    let led = subst (λ (n : Stored). IsLed source n s) (sym node_is) stands.between.led in
    let next = subst (λ x. IfSome x (λ links. HearsNext (folded_in c.node-followed.result.now) s links.items t)) c.in-Some.is c.in_ok-links.ensures.heard in
    let leads = subst (λ x. IfSome x (λ links. AllOf (Holds source.links) links.items × IsLed source c.node-followed.result.now t)) c.in-Some.is
    (c.in_ok-links.ensures.led source is_node led) in
    let same = (hears_ends (folded_in c.node-followed.result.now) s t c.in-Some.links.items next).0 in
    let relay = at_is_node source c.args.relays.now s t stands same c.index-relays-session.result in
    let store = c.hold.ensures.node source relay leads.0 in
    let more = c.hold.ensures.extends in
    tier_set source c.args.relays.now (t.relay - 1) c.hold.new.store stands.tier store

pub returns-in_err-told-clause-grow : goal.returns-in_err-told-clause-grow
returns-in_err-told-clause-grow c =
    grow_set c.args.source.now c.args.relays.now (c.hear_next.new.self.relay - 1) c.index-relays-session.result c.hold.new.store c.requires.scene.tier c.hold.ensures.extends

pub returns-clause-tier : goal.returns-clause-tier
returns-clause-tier c =
    let source = c.args.source.now in
    let stands = c.requires.scene in
    let node_is = c.node-followed.ensures.value in
    let s = c.args.session.now in
    let t = c.hear_next.new.self in
    let is_node = subst (IsNode source) (sym node_is) (node_of source c.args.relays.now stands.tier s.upstream) in
    let led = subst (λ (n : Stored). IsLed source n s) (sym node_is) stands.between.led in
    let next = subst (λ x. IfSome x (λ links. HearsNext (folded_in c.node-followed.result.now) s links.items t)) c.in-Some.is c.in_ok-links.ensures.heard in
    let leads = subst (λ x. IfSome x (λ links. AllOf (Holds source.links) links.items × IsLed source c.node-followed.result.now t)) c.in-Some.is
    (c.in_ok-links.ensures.led source is_node led) in
    let same = (hears_ends (folded_in c.node-followed.result.now) s t c.in-Some.links.items next).0 in
    let relay = at_is_node source c.args.relays.now s t stands same c.index-relays-session.result in
    let store = c.hold.ensures.node source relay leads.0 in
    let more = c.hold.ensures.extends in
    tier_set source c.args.relays.now (t.relay - 1) c.hold.new.store stands.tier store

pub returns-clause-grow : goal.returns-clause-grow
returns-clause-grow c =
    grow_set c.args.source.now c.args.relays.now (c.hear_next.new.self.relay - 1) c.index-relays-session.result c.hold.new.store c.requires.scene.tier c.hold.ensures.extends

pub returns-clause-scene : goal.returns-clause-scene
returns-clause-scene c =
    let source = c.args.source.now in
    let stands = c.requires.scene in
    let node_is = c.node-followed.ensures.value in
    let s = c.args.session.now in
    let t = c.hear_next.new.self in
    let is_node = subst (IsNode source) (sym node_is) (node_of source c.args.relays.now stands.tier s.upstream) in
    let led = subst (λ (n : Stored). IsLed source n s) (sym node_is) stands.between.led in
    let next = subst (λ x. IfSome x (λ links. HearsNext (folded_in c.node-followed.result.now) s links.items t)) c.in-Some.is c.in_ok-links.ensures.heard in
    let leads = subst (λ x. IfSome x (λ links. AllOf (Holds source.links) links.items × IsLed source c.node-followed.result.now t)) c.in-Some.is
    (c.in_ok-links.ensures.led source is_node led) in
    let same = (hears_ends (folded_in c.node-followed.result.now) s t c.in-Some.links.items next).0 in
    let relay = at_is_node source c.args.relays.now s t stands same c.index-relays-session.result in
    let store = c.hold.ensures.node source relay leads.0 in
    let more = c.hold.ensures.extends in
    after_hearing source c.node-followed.result.now c.args.relays.now s t c.in-Some.links.items c.index-relays-session.result c.hold.new.store stands node_is next leads.1 store more

pub returns-clause-heard : goal.returns-clause-heard
returns-clause-heard c done =
    let source = c.args.source.now in
    let stands = c.requires.scene in
    let node_is = c.node-followed.ensures.value in
    let s = c.args.session.now in
    let t = c.hear_next.new.self in
    let is_node = subst (IsNode source) (sym node_is) (node_of source c.args.relays.now stands.tier s.upstream) in
    let led = subst (λ (n : Stored). IsLed source n s) (sym node_is) stands.between.led in
    let next = subst (λ x. IfSome x (λ links. HearsNext (folded_in c.node-followed.result.now) s links.items t)) c.in-Some.is c.in_ok-links.ensures.heard in
    let leads = subst (λ x. IfSome x (λ links. AllOf (Holds source.links) links.items × IsLed source c.node-followed.result.now t)) c.in-Some.is
    (c.in_ok-links.ensures.led source is_node led) in
    let same = (hears_ends (folded_in c.node-followed.result.now) s t c.in-Some.links.items next).0 in
    let relay = at_is_node source c.args.relays.now s t stands same c.index-relays-session.result in
    did_hear source c.node-followed.result.now c.args.relays.now s t c.in-Some.links.items c.index-relays-session.result c.hold.new.store c.args.counts.now c.in_ok-told.told c.plus.result stands node_is next
    c.in_ok-told.ensures.held.0 c.in_ok-told.ensures.held.1 c.plus.ensures.value

pub returns-clause-ending : goal.returns-clause-ending
returns-clause-ending c =
    let s = c.args.session.now in
    let t = c.hear_next.new.self in
    let f = folded_in c.node-followed.result.now in
    hears_ending f s t c.in-Some.links.items (subst (λ x. IfSome x (λ links. HearsNext f s links.items t)) c.in-Some.is c.in_ok-links.ensures.heard)

pub returns-clause-none : goal.returns-clause-none
returns-clause-none c = search rules

pub returns-in_err-links-clause-refused : goal.returns-in_err-links-clause-refused
returns-in_err-links-clause-refused c =
    let e = c.in_err-links.field-0.0 in
    err_by c.from_residual.result e (λ x. StopsHearing c.args.source.now c.args.session.now c.args.relays.now x c.args.relays.now) c.from_residual.ensures.1
    (unheard_stops c.args.source.now c.args.session.now c.args.relays.now e c.in_err-links.ensures.refused)

pub returns-in_err-told-clause-refused : goal.returns-in_err-told-clause-refused
returns-in_err-told-clause-refused c =
    let source = c.args.source.now in
    let relays = c.args.relays.now in
    let stands = c.requires.scene in
    let s = c.args.session.now in
    let t = c.hear_next.new.self in
    let node = c.node-followed.result.now in
    let links = c.in-Some.links.items in
    let e = c.in_err-told.field-0.0 in
    let next = subst (λ x. IfSome x (λ links. HearsNext (folded_in node) s links.items t)) c.in-Some.is c.in_ok-links.ensures.heard in
    let same = (hears_ends (folded_in node) s t links next).0 in
    let here : HearsNext (folded_in (node_at source relays s.upstream)) s links t = subst (λ (n : Stored). HearsNext (folded_in n) s links t) c.node-followed.ensures.value next in
    let took : TakesSome (node_at source relays s.relay) links c.hold.new.store =
    subst (λ (x : Stored). TakesSome x links c.hold.new.store) (at_node source relays s t stands same c.index-relays-session.result) c.hold.ensures.some in
    err_by c.from_residual-in_err-told.result e (λ x. StopsHearing source s relays x (slice_set relays (t.relay - 1) c.hold.new.store)) c.from_residual-in_err-told.ensures.1
    (subst (λ x. StopsHearing source s relays x (slice_set relays (t.relay - 1) c.hold.new.store)) (sym c.in_err-told.ensures.memory)
    (inr (links, t, here, (c.hold.new.store, took, ap (λ n. slice_set relays (n - 1) c.hold.new.store) same))))
