use Rattle.std.proofs.Common.{◌≡◌, ℕ, List, refl, ◌∙◌, ap, subst, arith}
use Rattle.ovs_links.specs.Store.{Stored, head_of}
use Rattle.ovs_world.specs.Nodes.{node_at, folded_in}
use Rattle.ovs_world.specs.Sessions.{Opens}
use Rattle.ovs_world.specs.Worlds.{WorldValue, AreTwo, with_sessions}
use Rattle.ovs_world.specs.Steps.{RefusesConnect}
use Rattle.ovs_world.proofs.Broken.{err_both}
use Rattle.ovs_world.proofs.Refused.{unopened}
use Rattle.ovs_world.proofs.Scenes.{node_of}
use Rattle.ovs_world.proofs.Opened.{world_opened, opened_between, opened_quiet, relay_at}
use Rattle.ovs_world.proofs.world.World.connect.Goals as goal

-- the node that is followed, whatever way it is lent
node_is : (source lent_source : Stored) (relays lent_relays : List Stored) (n : ℕ) (node : Stored) → lent_source ≡ source → lent_relays ≡ relays → node ≡ node_at lent_source lent_relays n
    → node ≡ node_at source relays n
node_is source lent_source relays lent_relays n node a b is = is ∙ ap (λ (s : Stored). node_at s lent_relays n) a ∙ ap (λ (ss : List Stored). node_at source ss n) b

pub invariant_of-self-2 : goal.invariant_of-self-2
invariant_of-self-2 c =
    let w = c.self.inside in
    let node = c.node-followed.result.now in
    let opens = c.in_ok-session.ensures.opened in
    let s = c.in_ok-session.session in
    let is = node_is w.source c.store.result.now w.relays.items c.deref.result.now c.args.upstream node c.store.ensures.value c.deref.ensures.value c.node-followed.ensures.value in
    let long = c.len-count.ensures in
    let ok = w.relays.ok.0 in
    world_opened w.source w.fresh w.relays.items w.sessions.items c.push_session.new.sessions.items s c.self.invariant
    (opened_between w.source node w.relays.items c.args.relay c.args.upstream c.head-asked.result s c.self.invariant.tier is
    (omega (arith, c.if-relay-eq0.false), omega (arith, c.if-relay-count.false, long, ok)) (omega (arith, c.if-upstream-count.false, long, ok)) opens c.in_ok-session.ensures.shown c.in_ok-session.ensures.says)
    (opened_quiet (folded_in node) c.args.relay c.args.upstream c.head-asked.result s opens) c.in_ok-push_session.ensures.pushed

pub returns-in_err-session-clause-refused : goal.returns-in_err-session-clause-refused
returns-in_err-session-clause-refused c =
    let w = c.self.inside in
    let long = c.len-count.ensures in
    let ok = w.relays.ok.0 in
    let two : AreTwo (record { source = w.source; fresh = w.fresh; relays = w.relays.items; sessions = w.sessions.items }) c.args.relay c.args.upstream = (
      (omega (arith, c.if-relay-eq0.false), omega (arith, c.if-relay-count.false, long, ok)),
      omega (arith, c.if-upstream-count.false, long, ok),
      λ e. omega (arith, e, c.if-relay-upstream.false),
    ) in
    let old : WorldValue = record { source = w.source; fresh = w.fresh; relays = w.relays.items; sessions = w.sessions.items } in
    let node = c.node-followed.result.now in
    let is = node_is w.source c.store.result.now w.relays.items c.deref.result.now c.args.upstream node c.store.ensures.value c.deref.ensures.value c.node-followed.ensures.value in
    let schema = ap (λ (n : Stored). n.schema) is ∙ (node_of w.source w.relays.items c.self.invariant.tier c.args.upstream).schema in
    let e = c.in_err-session.field-0.0 in
    err_both c.from_residual.result e (RefusesConnect c.args.self.now c.args.relay c.args.upstream) c.from_residual.ensures.1
    (subst (λ (v : WorldValue). RefusesConnect v c.args.relay c.args.upstream e) c.self.view_is (unopened old c.args.relay c.args.upstream node.schema e two schema c.in_err-session.ensures.refused)) refl

pub returns-clause-settled : goal.returns-clause-settled
returns-clause-settled c = rw (← c.self.view_is) (λ all. all)

pub returns-clause-connects : goal.returns-clause-connects
returns-clause-connects c =
    let w = c.self.inside in
    let long = c.len-count.ensures in
    let ok = w.relays.ok.0 in
    let two : AreTwo (record { source = w.source; fresh = w.fresh; relays = w.relays.items; sessions = w.sessions.items }) c.args.relay c.args.upstream = (
      (omega (arith, c.if-relay-eq0.false), omega (arith, c.if-relay-count.false, long, ok)),
      omega (arith, c.if-upstream-count.false, long, ok),
      λ e. omega (arith, e, c.if-relay-upstream.false),
    ) in
    let node = c.node-followed.result.now in
    let is = node_is w.source c.store.result.now w.relays.items c.deref.result.now c.args.upstream node c.store.ensures.value c.deref.ensures.value c.node-followed.ensures.value in
    let asked = c.head-asked.ensures.value ∙ ap head_of (c.index.ensures ∙ relay_at w.source w.relays.items c.args.relay c.index.result.now two.0.0 two.0.1) in
    rw (← c.self.view_is) (record {
      nodes = two;
      session = c.in_ok-session.session;
      opens = subst (λ n. Opens (folded_in (node_at w.source w.relays.items c.args.upstream)) c.args.relay c.args.upstream n c.in_ok-session.session) asked
          (subst (λ (n : Stored). Opens (folded_in n) c.args.relay c.args.upstream c.head-asked.result c.in_ok-session.session) is c.in_ok-session.ensures.opened);
      after = ap (with_sessions (record { source = w.source; fresh = w.fresh; relays = w.relays.items; sessions = w.sessions.items })) c.in_ok-push_session.ensures.pushed;
      number_is = c.len.ensures ∙ c.push_session.new.sessions.ok.0;
    })
