use Rattle.std.proofs.Common.{◌≡◌, ◌-◌, ◌++◌, List, Option, Some, None, length, take, drop, slice_set, sym, ◌∙◌, ap, subst, arith}
use Rattle.std.proofs.lemmas.List.{length-set, set-set}
use Rattle.ovs_links.specs.Store.{Stored}
use Rattle.ovs_world.specs.Deliveries.{scene, Delivers, BreaksOff, IsScene}
use Rattle.ovs_world.specs.Nodes.{IsTier, Grow, no_counts}
use Rattle.ovs_world.specs.Steps.{RefusesDelivery}
use Rattle.ovs_world.specs.Worlds.{WorldValue, with_relays}
use Rattle.ovs_world.specs.declared.sim_session.SimSession.{SimSession}
use Rattle.ovs_world.proofs.Opened.{lent, lent_open, open_back, between_in, open_first, open_within, world_stopped, world_brought}
use Rattle.ovs_world.proofs.Broken.{err_by}
use Rattle.ovs_world.proofs.Refused.{stopped}
use Rattle.ovs_world.proofs.Scenes.{length_grow}
use Rattle.ovs_world.proofs.Settled.{Settle, settle_moves, all_settled}
use Rattle.ovs_world.proofs.world.World.deliver.Goals as goal

pub take_session-requires : goal.take_session-requires
take_session-requires c =
    let w = c.self.inside in
    record {
      stand = lent_open w.source c.store.result.now w.relays.items c.deref.result.now w.sessions.items c.deref_mut.result.now c.store.ensures.value c.deref.ensures.value c.deref_mut.ensures.value
          c.self.invariant.sessions;
    }

pub deliver-requires-clause-scene : goal.deliver-requires-clause-scene
deliver-requires-clause-scene c =
    let w = c.self.inside in
    let n = c.args.session in
    let s = c.in-Some.open in
    let is_open = open_back w.source c.store.result.now w.relays.items c.deref.result.now w.sessions.items c.deref_mut.result.now n s c.store.ensures.value c.deref.ensures.value c.deref_mut.ensures.value c.in-Some.ensures.taken.0 in
    let at = is_open.0 in
    let is = between_in w.source w.relays.items w.sessions.items n s c.self.invariant.tier c.self.invariant.sessions at in
    subst (λ (x : Stored). IsScene x c.deref_mut-2.result.now s) (sym c.store-2.ensures.value) (subst (λ (x : List Stored). IsScene w.source x s) (sym c.deref_mut-2.ensures.value) is.0)

pub deliver-requires-clause-quiet : goal.deliver-requires-clause-quiet
deliver-requires-clause-quiet c =
    let w = c.self.inside in
    let n = c.args.session in
    let s = c.in-Some.open in
    let is_open = open_back w.source c.store.result.now w.relays.items c.deref.result.now w.sessions.items c.deref_mut.result.now n s c.store.ensures.value c.deref.ensures.value c.deref_mut.ensures.value c.in-Some.ensures.taken.0 in
    let at = is_open.0 in
    let is = between_in w.source w.relays.items w.sessions.items n s c.self.invariant.tier c.self.invariant.sessions at in
    is.1

pub invariant_of-self-in_err-counts : goal.invariant_of-self-in_err-counts
invariant_of-self-in_err-counts c =
    let w = c.self.inside in
    let n = c.args.session in
    let s = c.in-Some.open in
    let is_open = open_back w.source c.store.result.now w.relays.items c.deref.result.now w.sessions.items c.deref_mut.result.now n s c.store.ensures.value c.deref.ensures.value c.deref_mut.ensures.value c.in-Some.ensures.taken.0 in
    let at = is_open.0 in
    let is = between_in w.source w.relays.items w.sessions.items n s c.self.invariant.tier c.self.invariant.sessions at in
    let ts = c.deliver.new.relays in
    let tier : IsTier w.source ts = subst (λ (x : Stored). IsTier x ts) c.store-2.ensures.value c.deliver.ensures.tier in
    let grow : Grow w.relays.items ts = subst (λ (x : List Stored). Grow x ts) c.deref_mut-2.ensures.value c.deliver.ensures.grow in
    let us = take w.relays.len (ts ++ drop (length ts) w.relays.items) in
    let back : us ≡ ts = lent ts w.relays.items w.relays.len (drop (length ts) w.relays.items) w.relays.ok.0 (sym (length_grow w.relays.items ts grow)) in
    let os = c.take_session.new.sessions in
    let cut : os ≡ slice_set w.sessions.items (n - 1) None = c.in-Some.ensures.taken.1 ∙ ap (λ (x : List (Option SimSession)). slice_set x (n - 1) None) c.deref_mut.ensures.value in
    let long : length os ≡ length w.sessions.items = ap length cut ∙ length-set w.sessions.items (n - 1) None in
    let ps = take w.sessions.len (os ++ drop (length os) w.sessions.items) in
    let left : ps ≡ slice_set w.sessions.items (n - 1) None = lent os w.sessions.items w.sessions.len (drop (length os) w.sessions.items) w.sessions.ok.0 long ∙ cut in
    world_stopped w.source w.fresh w.relays.items ts us w.sessions.items ps (n - 1) c.self.invariant tier grow back left

pub returns-in_err-counts-clause-refused : goal.returns-in_err-counts-clause-refused
returns-in_err-counts-clause-refused c =
    let w = c.self.inside in
    let n = c.args.session in
    let s = c.in-Some.open in
    let is_open = open_back w.source c.store.result.now w.relays.items c.deref.result.now w.sessions.items c.deref_mut.result.now n s c.store.ensures.value c.deref.ensures.value c.deref_mut.ensures.value c.in-Some.ensures.taken.0 in
    let at = is_open.0 in
    let ts = c.deliver.new.relays in
    let e = c.in_err-counts.field-0.0 in
    let grow : Grow w.relays.items ts = subst (λ (x : List Stored). Grow x ts) c.deref_mut-2.ensures.value c.deliver.ensures.grow in
    let us = take w.relays.len (ts ++ drop (length ts) w.relays.items) in
    let back : us ≡ ts = lent ts w.relays.items w.relays.len (drop (length ts) w.relays.items) w.relays.ok.0 (sym (length_grow w.relays.items ts grow)) in
    let os = c.take_session.new.sessions in
    let cut : os ≡ slice_set w.sessions.items (n - 1) None = c.in-Some.ensures.taken.1 ∙ ap (λ (x : List (Option SimSession)). slice_set x (n - 1) None) c.deref_mut.ensures.value in
    let long : length os ≡ length w.sessions.items = ap length cut ∙ length-set w.sessions.items (n - 1) None in
    let ps = take w.sessions.len (os ++ drop (length os) w.sessions.items) in
    let left : ps ≡ slice_set w.sessions.items (n - 1) None = lent os w.sessions.items w.sessions.len (drop (length os) w.sessions.items) w.sessions.ok.0 long ∙ cut in
    let old : WorldValue = record { source = w.source; fresh = w.fresh; relays = w.relays.items; sessions = w.sessions.items } in
    let first = subst (λ (x : Stored). BreaksOff x c.args.bytes (scene c.deref_mut-2.result.now s no_counts) e ts) c.store-2.ensures.value c.in_err-counts.ensures.refused in
    let second = subst (λ (x : List Stored). BreaksOff w.source c.args.bytes (scene x s no_counts) e ts) c.deref_mut-2.ensures.value first in
    let new : WorldValue = record { source = w.source; fresh = w.fresh; relays = us; sessions = ps } in
    rw (← c.self.view_is) (err_by c.from_residual.result e (λ x. RefusesDelivery old n c.args.bytes x new) c.from_residual.ensures.1 (stopped old n c.args.bytes e new (record {
      before = s;
      is_open = is_open;
      grow = subst (λ (x : List Stored). Grow w.relays.items x) (sym back) grow;
      breaks = subst (λ (x : List Stored). BreaksOff w.source c.args.bytes (scene w.relays.items s no_counts) e x) (sym back) second;
      world = ap (λ (x : List (Option SimSession)). with_relays old us x) left;
    })))

pub overflow_sub-session : goal.overflow_sub-session
overflow_sub-session c =
    let w = c.self.inside in
    let n = c.args.session in
    let s = c.in-Some.open in
    let is_open = open_back w.source c.store.result.now w.relays.items c.deref.result.now w.sessions.items c.deref_mut.result.now n s c.store.ensures.value c.deref.ensures.value c.deref_mut.ensures.value c.in-Some.ensures.taken.0 in
    let at = is_open.0 in
    open_first w.sessions.items n s at

pub index_mut-requires : goal.index_mut-requires
index_mut-requires c =
    let w = c.self.inside in
    let n = c.args.session in
    let s = c.in-Some.open in
    let is_open = open_back w.source c.store.result.now w.relays.items c.deref.result.now w.sessions.items c.deref_mut.result.now n s c.store.ensures.value c.deref.ensures.value c.deref_mut.ensures.value c.in-Some.ensures.taken.0 in
    let at = is_open.0 in
    let is = between_in w.source w.relays.items w.sessions.items n s c.self.invariant.tier c.self.invariant.sessions at in
    let within = open_within w.sessions.items n s at in
    let ok = w.sessions.ok.0 in
    omega (arith, within, ok)

pub invariant_of-self-2 : goal.invariant_of-self-2
invariant_of-self-2 c =
    let w = c.self.inside in
    let n = c.args.session in
    let s = c.in-Some.open in
    let is_open = open_back w.source c.store.result.now w.relays.items c.deref.result.now w.sessions.items c.deref_mut.result.now n s c.store.ensures.value c.deref.ensures.value c.deref_mut.ensures.value c.in-Some.ensures.taken.0 in
    let at = is_open.0 in
    let is = between_in w.source w.relays.items w.sessions.items n s c.self.invariant.tier c.self.invariant.sessions at in
    let ts = c.deliver.new.relays in
    let tier : IsTier w.source ts = subst (λ (x : Stored). IsTier x ts) c.store-2.ensures.value c.deliver.ensures.tier in
    let grow : Grow w.relays.items ts = subst (λ (x : List Stored). Grow x ts) c.deref_mut-2.ensures.value c.deliver.ensures.grow in
    let us = take w.relays.len (ts ++ drop (length ts) w.relays.items) in
    let back : us ≡ ts = lent ts w.relays.items w.relays.len (drop (length ts) w.relays.items) w.relays.ok.0 (sym (length_grow w.relays.items ts grow)) in
    let os = c.take_session.new.sessions in
    let cut : os ≡ slice_set w.sessions.items (n - 1) None = c.in-Some.ensures.taken.1 ∙ ap (λ (x : List (Option SimSession)). slice_set x (n - 1) None) c.deref_mut.ensures.value in
    let long : length os ≡ length w.sessions.items = ap length cut ∙ length-set w.sessions.items (n - 1) None in
    let ps = take w.sessions.len (os ++ drop (length os) w.sessions.items) in
    let left : ps ≡ slice_set w.sessions.items (n - 1) None = lent os w.sessions.items w.sessions.len (drop (length os) w.sessions.items) w.sessions.ok.0 long ∙ cut in
    let t = c.deliver.new.session in
    let stands : IsScene w.source ts t = subst (λ (x : Stored). IsScene x ts t) c.store-2.ensures.value c.in_ok-counts.ensures.scene in
    world_brought w.source w.fresh w.relays.items ts us w.sessions.items ps (n - 1) t c.self.invariant tier grow stands c.in_ok-counts.ensures.delivers.quiet back left

pub returns-clause-brings : goal.returns-clause-brings
returns-clause-brings c =
    let w = c.self.inside in
    let n = c.args.session in
    let s = c.in-Some.open in
    let is_open = open_back w.source c.store.result.now w.relays.items c.deref.result.now w.sessions.items c.deref_mut.result.now n s c.store.ensures.value c.deref.ensures.value c.deref_mut.ensures.value c.in-Some.ensures.taken.0 in
    let at = is_open.0 in
    let is = between_in w.source w.relays.items w.sessions.items n s c.self.invariant.tier c.self.invariant.sessions at in
    let ts = c.deliver.new.relays in
    let tier : IsTier w.source ts = subst (λ (x : Stored). IsTier x ts) c.store-2.ensures.value c.deliver.ensures.tier in
    let grow : Grow w.relays.items ts = subst (λ (x : List Stored). Grow x ts) c.deref_mut-2.ensures.value c.deliver.ensures.grow in
    let us = take w.relays.len (ts ++ drop (length ts) w.relays.items) in
    let back : us ≡ ts = lent ts w.relays.items w.relays.len (drop (length ts) w.relays.items) w.relays.ok.0 (sym (length_grow w.relays.items ts grow)) in
    let os = c.take_session.new.sessions in
    let cut : os ≡ slice_set w.sessions.items (n - 1) None = c.in-Some.ensures.taken.1 ∙ ap (λ (x : List (Option SimSession)). slice_set x (n - 1) None) c.deref_mut.ensures.value in
    let long : length os ≡ length w.sessions.items = ap length cut ∙ length-set w.sessions.items (n - 1) None in
    let ps = take w.sessions.len (os ++ drop (length os) w.sessions.items) in
    let left : ps ≡ slice_set w.sessions.items (n - 1) None = lent os w.sessions.items w.sessions.len (drop (length os) w.sessions.items) w.sessions.ok.0 long ∙ cut in
    let t = c.deliver.new.session in
    let stands : IsScene w.source ts t = subst (λ (x : Stored). IsScene x ts t) c.store-2.ensures.value c.in_ok-counts.ensures.scene in
    let counts = c.in_ok-counts.counts in
    let first = subst (λ (x : Stored). Delivers x c.args.bytes (scene c.deref_mut-2.result.now s no_counts) (scene ts t counts)) c.store-2.ensures.value c.in_ok-counts.ensures.delivers in
    let second = subst (λ (x : List Stored). Delivers w.source c.args.bytes (scene x s no_counts) (scene ts t counts)) c.deref_mut-2.ensures.value first in
    rw (← c.self.view_is) (record {
      before = s;
      is_open = is_open;
      relays = us;
      after = t;
      delivers = subst (λ (x : List Stored). Delivers w.source c.args.bytes (scene w.relays.items s no_counts) (scene x t counts)) (sym back) second;
      world = ap (λ (x : List (Option SimSession)). with_relays (record { source = w.source; fresh = w.fresh; relays = w.relays.items; sessions = w.sessions.items }) us x)
          (ap (λ (x : List (Option SimSession)). slice_set x (n - 1) (Some t)) left ∙ set-set w.sessions.items (n - 1) None (Some t));
    })

pub returns-clause-settled : goal.returns-clause-settled
returns-clause-settled c =
    let w = c.self.inside in
    let ts = c.deliver.new.relays in
    let s = c.in-Some.open in
    let tier : IsTier w.source ts = subst (λ (x : Stored). IsTier x ts) c.store-2.ensures.value c.deliver.ensures.tier in
    let grow : Grow w.relays.items ts = subst (λ (x : List Stored). Grow x ts) c.deref_mut-2.ensures.value c.deliver.ensures.grow in
    let us = take w.relays.len (ts ++ drop (length ts) w.relays.items) in
    let back : us ≡ ts = lent ts w.relays.items w.relays.len (drop (length ts) w.relays.items) w.relays.ok.0 (sym (length_grow w.relays.items ts grow)) in
    let moves = c.in_ok-counts.ensures.delivers.moves in
    let settle = settle_moves c.store-2.result.now moves.0 (scene c.deref_mut-2.result.now s no_counts) (scene ts c.deliver.new.session c.in_ok-counts.counts) moves.1 in
    let from = subst (λ (x : List Stored). Settle x ts) c.deref_mut-2.ensures.value settle in
    rw (← c.self.view_is) (λ all. all_settled w.source w.relays.items us (subst (IsTier w.source) (sym back) tier) (subst (Settle w.relays.items) (sym back) from) all)
