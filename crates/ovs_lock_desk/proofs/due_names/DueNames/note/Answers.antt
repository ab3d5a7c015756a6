use Rattle.std.proofs.Common.{◌≡◌, true, false, sym, ◌∙◌}
use Rattle.ovs_locks.proofs.Tables.{apart}
use Rattle.ovs_lock_desk.proofs.due_names.DueNames.note.Goals as goal

pub returns-else-is_due : goal.returns-else-is_due
returns-else-is_due c = rw (← c.self.view_is) (record {
  note = record {
    whole = λ whole. whole;
    here = λ whole due. absurd (let clash : true ≡ false = sym due ∙ c.if-is_due.false in cc);
    gone = λ none. c.remove.ensures.updates.1;
    others = λ other ne. c.remove.ensures.updates.2 other (apart c.args.name.now other ne);
  };
})
