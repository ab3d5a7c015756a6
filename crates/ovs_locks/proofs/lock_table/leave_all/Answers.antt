use Rattle.std.proofs.Common.{◌≡◌, ◌∷◌, subst, rules}
use Rattle.ovs_locks.proofs.TableSteps.{Leaving, leaving_next, has_left}
use Rattle.ovs_locks.proofs.lock_table.leave_all.Goals as goal

pub loop-name-preserved : goal.loop-name-preserved
loop-name-preserved c =
    let name = c.in-Some.name.now in
    let owed = c.in-Some._owed.now in
    let step : c.loop-name.name-iterator ≡ (name, owed) ∷ c.next.new.self = search rules in
    leaving_next c.args.session c.args.locks.now name owed c.loop-name.name-iterator c.next.new.self c.loop-name.locks c.leave.new.self c.loop-name.sessions c.remark_any.new.sessions c.owner-next.result step
    c.loop-name.invariant c.leave.ensures.after c.owner-next.ensures.value c.remark_any.ensures.marks c.leave.ensures.ascending c.leave.ensures.none_idle

pub returns-clause-left : goal.returns-clause-left
returns-clause-left c =
    has_left c.args.session c.args.locks.now c.loop-name.locks c.loop-name.sessions
    (subst (λ names. Leaving c.args.session c.args.locks.now names c.loop-name.locks c.loop-name.sessions) c.in-None.ensures.steps.0 c.loop-name.invariant)
