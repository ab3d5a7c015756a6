use Rattle.std.proofs.Common.{◌≡◌, ◌+◌, ℕ, sym, ◌∙◌, arith}
use Rattle.ovs_rows.specs.Row.{columns_at}
use Rattle.ovs_operations.proofs.Courses.{alone, ok_weaker, err_weaker}
use Rattle.ovs_operations.proofs.altering.alter.Goals as goal

nothing_more : (n : ℕ) → 0 + n ≡ n
nothing_more n = omega arith

pub returns-in-Some-clause-done : goal.returns-in-Some-clause-done
returns-in-Some-clause-done c =
    ok_weaker _ _ c.alter_row.result (λ n done.
    sym (alone c.args.commit c.args.work.now.before.rows (columns_at c.args.work.now.before.schema.description.tables c.args.table) c.args.alteration.now c.args.conditions.now c.args.table c.in-Some.id c.args.work.now.rows c.in-Some.ensures.alone)
    ∙ rw (nothing_more n) at (done 0)) c.alter_row.ensures.done

pub returns-in-Some-clause-fault : goal.returns-in-Some-clause-fault
returns-in-Some-clause-fault c =
    err_weaker _ _ c.alter_row.result (λ e fault.
    sym (alone c.args.commit c.args.work.now.before.rows (columns_at c.args.work.now.before.schema.description.tables c.args.table) c.args.alteration.now c.args.conditions.now c.args.table c.in-Some.id c.args.work.now.rows c.in-Some.ensures.alone)
    ∙ fault 0) c.alter_row.ensures.fault
