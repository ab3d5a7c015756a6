use Rattle.std.proofs.Common.{◌≡◌, ◌∷◌, ◌∙◌, sym, subst, rules}
use Rattle.ovs_locks.specs.BySession.{Names, names_at}
use Rattle.ovs_lock_desk.specs.LockDesk.{IsDeskTable, relay_lock_at}
use Rattle.ovs_lock_desk.specs.UpwardTable.{AreSettled}
use Rattle.ovs_lock_desk.specs.declared.lock_state.LockEvent.TheVariants as events
use Rattle.ovs_lock_desk.proofs.Settled.{end_of_another}
use Rattle.ovs_lock_desk.proofs.Stepping.{Stepping, stepping_first, stepping_next, has_stepped}
use Rattle.ovs_lock_desk.proofs.upward_table.UpwardTable.ended.Goals as goal

pub returns-in_default-clause-after : goal.returns-in_default-clause-after
returns-in_default-clause-after c =
    let event = events.Ended c.args.session in
    let locks = c.args.self.now in
    let names = names_at c.args.session c.args.sessions.now in
    let table = subst IsDeskTable c.self.view_is c.self.invariant.table in
    let settled = subst AreSettled c.self.view_is c.self.invariant.settled in
    has_stepped event locks locks table
    (subst (λ (ns : Names). Stepping event locks ns locks) (sym c.in_default.ensures.value)
    (stepping_first event locks names c.names.ensures.ascend table (λ name none. end_of_another c.args.session (relay_lock_at name locks) (settled name) (c.requires.named c.args.session name none))))

pub loop-name-init : goal.loop-name-init
loop-name-init c =
    let event = events.Ended c.args.session in
    let locks = c.args.self.now in
    let names = names_at c.args.session c.args.sessions.now in
    let table = subst IsDeskTable c.self.view_is c.self.invariant.table in
    let settled = subst AreSettled c.self.view_is c.self.invariant.settled in
    let iter : c.into_iter-name-iterator.result ≡ c.in-Some.names.now.entries = search rules in
    subst (λ (ns : Names). Stepping event locks ns locks) (sym (iter ∙ c.in-Some.ensures.value))
    (stepping_first event locks names c.names.ensures.ascend table (λ name none. end_of_another c.args.session (relay_lock_at name locks) (settled name) (c.requires.named c.args.session name none)))

pub loop-name-preserved : goal.loop-name-preserved
loop-name-preserved c =
    let name = c.in-Some-2.name.now in
    let mark = c.in-Some-2._mark.now in
    let step : c.loop-name.name-iterator ≡ (name, mark) ∷ c.next.new.self = search rules in
    stepping_next (events.Ended c.args.session) c.args.self.now name mark c.loop-name.name-iterator c.next.new.self c.loop-name.self c.at.new.self step c.loop-name.invariant c.at.ensures.after c.at.ensures.table

pub returns-clause-after : goal.returns-clause-after
returns-clause-after c =
    has_stepped (events.Ended c.args.session) c.args.self.now c.loop-name.self (subst IsDeskTable c.self.view_is c.self.invariant.table)
    (subst (λ (ns : Names). Stepping (events.Ended c.args.session) c.args.self.now ns c.loop-name.self) c.in-None.ensures.steps.0 c.loop-name.invariant)
