use Rattle.std.proofs.Common.{◌≡◌, ◌∷◌, true, false, sym, subst, rules}
use Rattle.ovs_locks.specs.ByName.{Ascends}
use Rattle.ovs_lock_desk.specs.RelayLock.{is_due_up}
use Rattle.ovs_lock_desk.proofs.DueUp.{ListsBefore, listed_none, listed_still, listed_more, listed_all}
use Rattle.ovs_lock_desk.proofs.desk_table.DeskTable.list_due.Goals as goal

pub loop-name-init : goal.loop-name-init
loop-name-init c =
    let locks = c.args.self.now in
    let iter : c.into_iter-name-iterator.result ≡ locks = search rules in
    subst (λ left. ListsBefore locks left c.clear.new.self) (sym iter)
    (subst (ListsBefore locks locks) (sym c.clear.ensures.value) (listed_none locks (subst Ascends c.self.view_is c.self.invariant.0)))

pub loop-name-preserved-then-is_some : goal.loop-name-preserved-then-is_some
loop-name-preserved-then-is_some c =
    let name = c.in-Some.name.now in
    let lock = c.in-Some.lock.now in
    let step : c.loop-name.name-iterator ≡ (name, lock) ∷ c.next.new.self = search rules in
    let due : is_due_up lock ≡ true = search rules in
    listed_more c.args.self.now c.loop-name.name-iterator c.next.new.self name lock c.loop-name.due c.note.new.self step due c.note.ensures.note c.loop-name.invariant

pub loop-name-preserved : goal.loop-name-preserved
loop-name-preserved c =
    let name = c.in-Some.name.now in
    let lock = c.in-Some.lock.now in
    let step : c.loop-name.name-iterator ≡ (name, lock) ∷ c.next.new.self = search rules in
    let none : is_due_up lock ≡ false = search rules in
    listed_still c.args.self.now c.loop-name.name-iterator c.next.new.self name lock c.loop-name.due step none c.loop-name.invariant

pub returns : goal.returns
returns c = record { listed = listed_all c.args.self.now c.loop-name.due (subst (λ left. ListsBefore c.args.self.now left c.loop-name.due) c.in-None.ensures.steps.0 c.loop-name.invariant) }
