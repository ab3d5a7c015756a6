use Rattle.std.proofs.Common.{◌≡◌, ◌∷◌, true, Some, sym, subst, rules}
use Rattle.ovs_locks.specs.BySession.{RemarksAny}
use Rattle.ovs_lock_desk.proofs.OwedMarks.{LosersBefore, losers_none, losers_more, losers_all}
use Rattle.ovs_lock_desk.proofs.desk_table.DeskTable.mark_losers.Goals as goal

pub loop-name-init : goal.loop-name-init
loop-name-init c =
    let locks = c.args.self.now in
    let iter : c.into_iter-name-iterator.result ≡ locks = search rules in
    subst (λ left. LosersBefore locks left c.args.sessions.now c.args.sessions.now) (sym iter) (losers_none locks c.args.sessions.now)

pub loop-name-preserved : goal.loop-name-preserved
loop-name-preserved c =
    let name = c.in-Some.name.now in
    let lock = c.in-Some.lock.now in
    let step : c.loop-name.name-iterator ≡ (name, lock) ∷ c.next.new.self = search rules in
    losers_more c.args.self.now c.loop-name.name-iterator c.next.new.self name lock c.args.sessions.now c.loop-name.sessions c.mark_any.new.sessions c.mark_any-in-loop-name.new.sessions step
    (subst (λ o. RemarksAny (λ x. Some true) o name c.loop-name.sessions c.mark_any.new.sessions) c.owner.ensures.value c.mark_any.ensures.marks)
    (subst (λ o. RemarksAny (λ x. Some true) o name c.mark_any.new.sessions c.mark_any-in-loop-name.new.sessions) c.open_session.ensures.value c.mark_any-in-loop-name.ensures.marks)
    c.loop-name.invariant

pub returns : goal.returns
returns c = record {
  marks = losers_all c.args.self.now c.args.sessions.now c.loop-name.sessions (subst (λ left. LosersBefore c.args.self.now left c.args.sessions.now c.loop-name.sessions) c.in-None.ensures.steps.0 c.loop-name.invariant);
}
