use Rattle.std.proofs.Common.{◌≡◌, ◌-◌, ◌++◌, List, Option, None, length, take, drop, slice_set, refl, ◌∙◌, ap}
use Rattle.std.proofs.lemmas.List.{length-set}
use Rattle.ovs_world.specs.Worlds.{WorldValue, with_sessions}
use Rattle.ovs_world.specs.declared.sim_session.SimSession.{SimSession}
use Rattle.ovs_world.proofs.Opened.{lent, lent_open, none_back, open_back}
use Rattle.ovs_world.proofs.world.World.cut.Goals as goal

pub take_session-requires : goal.take_session-requires
take_session-requires c =
    let w = c.self.inside in
    record {
      stand = lent_open w.source c.store.result.now w.relays.items c.deref.result.now w.sessions.items c.deref_mut.result.now c.store.ensures.value c.deref.ensures.value c.deref_mut.ensures.value
          c.self.invariant.sessions;
    }

pub returns-clause-settled : goal.returns-clause-settled
returns-clause-settled c = rw (← c.self.view_is) (λ all. all)

pub returns-clause-cuts : goal.returns-clause-cuts
returns-clause-cuts c =
    let w = c.self.inside in
    let n = c.args.session in
    let s = c.in-Some.open in
    let old : WorldValue = record { source = w.source; fresh = w.fresh; relays = w.relays.items; sessions = w.sessions.items } in
    let is_open = open_back w.source c.store.result.now w.relays.items c.deref.result.now w.sessions.items c.deref_mut.result.now n s c.store.ensures.value c.deref.ensures.value c.deref_mut.ensures.value c.in-Some.ensures.taken.0 in
    let os = c.take_session.new.sessions in
    let cut : os ≡ slice_set w.sessions.items (n - 1) None = c.in-Some.ensures.taken.1 ∙ ap (λ (x : List (Option SimSession)). slice_set x (n - 1) None) c.deref_mut.ensures.value in
    let long : length os ≡ length w.sessions.items = ap length cut ∙ length-set w.sessions.items (n - 1) None in
    let ps = take w.sessions.len (os ++ drop (length os) w.sessions.items) in
    let left : ps ≡ slice_set w.sessions.items (n - 1) None = lent os w.sessions.items w.sessions.len (drop (length os) w.sessions.items) w.sessions.ok.0 long ∙ cut in
    rw (← c.self.view_is) (record { before = s; is_open = is_open; world = ap (with_sessions old) left })

pub returns-in_default-clause-refused : goal.returns-in_default-clause-refused
returns-in_default-clause-refused c =
    let w = c.self.inside in
    let n = c.args.session in
    let old : WorldValue = record { source = w.source; fresh = w.fresh; relays = w.relays.items; sessions = w.sessions.items } in
    let none = c.in_default.ensures.none refl in
    let os = c.take_session.new.sessions in
    let same : os ≡ w.sessions.items = none.1 ∙ c.deref_mut.ensures.value in
    let left = lent os w.sessions.items w.sessions.len (drop (length os) w.sessions.items) w.sessions.ok.0 (ap length same) ∙ same in
    rw (← c.self.view_is) (
      none_back w.source c.store.result.now w.relays.items c.deref.result.now w.sessions.items c.deref_mut.result.now n c.store.ensures.value c.deref.ensures.value c.deref_mut.ensures.value none.0,
      ap (with_sessions old) left,
    )
