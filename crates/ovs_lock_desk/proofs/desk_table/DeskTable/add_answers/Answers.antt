use Rattle.std.proofs.Common.{◌≡◌, ◌∙◌, ◌∷◌, ◌++◌, List, sym, ap, append_assoc, rules}
use Rattle.std.specs.Prelude.{map, filter}
use Rattle.ovs_lock_desk.specs.PendingSteal.{is_due_late}
use Rattle.ovs_lock_desk.specs.LockDesk.{answers_told, told_of}
use Rattle.ovs_lock_desk.specs.declared.desk_notice.DeskNotice.{DeskNotice}
use Rattle.ovs_lock_desk.proofs.DeskTables.{told_step}
use Rattle.ovs_lock_desk.proofs.desk_table.DeskTable.add_answers.Goals as goal

pub loop-name-preserved : goal.loop-name-preserved
loop-name-preserved c =
    let session = c.args.session in
    let name = c.in-Some._name.now in
    let lock = c.in-Some.lock.now in
    let later = c.next.new.self in
    let owed = c.loop-name.owed.items in
    let due = map told_of (filter (is_due_late session) lock.late) in
    let step : c.loop-name._name-iterator ≡ (name, lock) ∷ later = search rules in
    ap (λ (xs : List DeskNotice). xs ++ answers_told session later) c.in_ok-add_answers.ensures.value
    ∙ append_assoc owed due (answers_told session later)
    ∙ ap (λ (xs : List DeskNotice). owed ++ xs) (sym (told_step session name lock later) ∙ ap (answers_told session) (sym step))
    ∙ c.loop-name.invariant
