use Rattle.std.proofs.Common.{◌≡◌, ◌-◌, ◌++◌, inr, List, Option, length, map, take, drop, slice_set, sym, ◌∙◌, ap, subst, arith}
use Rattle.std.proofs.lemmas.List.{length-map}
use Rattle.ovs_links.specs.Store.{Stored}
use Rattle.ovs_world.specs.Nodes.{IsTier, IsSettled}
use Rattle.ovs_world.specs.Worlds.{IsWorld, cut_of, empty_store}
use Rattle.ovs_world.specs.declared.sim_session.SimSession.{SimSession}
use Rattle.ovs_world.proofs.Opened.{lent}
use Rattle.ovs_world.proofs.Restarted.{world_restarted}
use Rattle.ovs_world.proofs.Settled.{none_settled, settle_set, all_settled}
use Rattle.ovs_world.proofs.world.World.restart.Goals as goal

pub invariant_of-self : goal.invariant_of-self
invariant_of-self c =
    let w = c.self.inside in
    let r = c.args.relay in
    let long = c.len.ensures in
    let ok = w.relays.ok.0 in
    let empty : c.in_ok-store.store ≡ empty_store w.source.schema =
    c.in_ok-store.ensures.value ∙ ap empty_store (c.schema.ensures.value ∙ ap (λ (s : Stored). s.schema) c.store.ensures.value) in
    let os = c.cut_sessions_of.new.sessions in
    let cut : os ≡ map (cut_of r) w.sessions.items = c.cut_sessions_of.ensures.cut ∙ ap (map (cut_of r)) c.deref_mut.ensures.value in
    let same : length os ≡ length w.sessions.items = ap length cut ∙ length-map w.sessions.items (cut_of r) in
    let ps = take w.sessions.len (os ++ drop (length os) w.sessions.items) in
    let left : ps ≡ map (cut_of r) w.sessions.items = lent os w.sessions.items w.sessions.len (drop (length os) w.sessions.items) w.sessions.ok.0 same ∙ cut in
    let is = world_restarted w.source w.relays.items r (omega (arith, c.if-relay-eq0.false), omega (arith, c.if-relay-len.false, long, ok)) w.fresh w.sessions.items c.self.invariant in
    subst (λ (x : Stored). IsWorld (record { source = w.source; fresh = w.fresh; relays = slice_set w.relays.items (r - 1) x; sessions = ps })) (sym empty)
    (subst (λ (x : List (Option SimSession)). IsWorld (record { source = w.source; fresh = w.fresh; relays = slice_set w.relays.items (r - 1) (empty_store w.source.schema); sessions = x })) (sym left) is)

pub returns-clause-settled : goal.returns-clause-settled
returns-clause-settled c =
    let w = c.self.inside in
    let r = c.args.relay in
    let long = c.len.ensures in
    let ok = w.relays.ok.0 in
    let empty : c.in_ok-store.store ≡ empty_store w.source.schema =
    c.in_ok-store.ensures.value ∙ ap empty_store (c.schema.ensures.value ∙ ap (λ (s : Stored). s.schema) c.store.ensures.value) in
    let is = world_restarted w.source w.relays.items r (omega (arith, c.if-relay-eq0.false), omega (arith, c.if-relay-len.false, long, ok)) w.fresh w.sessions.items c.self.invariant in
    let tier : IsTier w.source (slice_set w.relays.items (r - 1) c.in_ok-store.store) =
    subst (λ (x : Stored). IsTier w.source (slice_set w.relays.items (r - 1) x)) (sym empty) is.tier in
    let none : IsSettled c.in_ok-store.store = subst IsSettled (sym empty) (none_settled w.source.schema) in
    rw (← c.self.view_is) (λ all. all_settled w.source w.relays.items (slice_set w.relays.items (r - 1) c.in_ok-store.store) tier (settle_set w.relays.items (r - 1) c.in_ok-store.store (λ s. inr (λ store. none))) all)
