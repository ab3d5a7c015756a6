use Rattle.std.proofs.Common.{◌≤◌, ◌+◌, refl, ◌∙◌, arith, rules}
use Rattle.ovs_rows.specs.Row.{columns_at}
use Rattle.ovs_operations.specs.Altering.{matches, alter_all}
use Rattle.ovs_operations.proofs.Courses.{few, one_turn, one_fewer, one_fault}
use Rattle.ovs_operations.proofs.altering.alter_rows.Goals as goal

pub loop-id-init : goal.loop-id-init
loop-id-init c = record {
  rest = refl;
  most = omega (arith, few c.args.table c.args.work.now.rows, c.len_bound-most.ensures.most);
  before = refl;
  commit = λ k. k;
}

pub loop-id-smaller : goal.loop-id-smaller
loop-id-smaller c =
    let columns = columns_at c.args.work.now.before.schema.description.tables c.args.table in
    let done = rw (c.in-Ok.is, c.loop-id.invariant.before) at c.in_ok-n.ensures.done in
    let fewer = one_fewer c.args.commit c.args.work.now.before.rows columns (matches c.args.conditions.now) c.args.alteration.now (record { rows = c.loop-id.work.rows; count = c.loop-id.count }) c.loop-id.last c.args.table c.in-Some.id c.in-Some._row.now c.in-Some.ensures.rest c.in-Some.ensures.least.1 _ (record { rows = c.alter_row.new.work.rows; count = c.loop-id.count + c.in-Ok.n }) (done c.loop-id.count) (search rules) in
    omega (arith, fewer)

pub returns-in-Err-clause-fault : goal.returns-in-Err-clause-fault
returns-in-Err-clause-fault c =
    let columns = columns_at c.args.work.now.before.schema.description.tables c.args.table in
    let fault = rw (c.in-Err.is, c.loop-id.invariant.before) at c.in_ok-n.ensures.fault in
    one_fault c.args.commit c.args.work.now.before.rows columns (matches c.args.conditions.now) c.args.alteration.now (record { rows = c.loop-id.work.rows; count = c.loop-id.count }) c.loop-id.last c.args.table c.in-Some.id c.in-Some._row.now c.in-Some.ensures.rest c.in-Some.ensures.least.1 _ c.in-Err.fault
    (alter_all c.args.commit c.args.work.now.before.rows columns (matches c.args.conditions.now) c.args.alteration.now c.args.table c.args.work.now.rows) (fault c.loop-id.count) c.loop-id.invariant.rest (search rules)

pub loop-id-preserved : goal.loop-id-preserved
loop-id-preserved c =
    let columns = columns_at c.args.work.now.before.schema.description.tables c.args.table in
    let done = rw (c.in-Ok.is, c.loop-id.invariant.before) at c.in_ok-n.ensures.done in
    let commit = rw (c.in-Ok.is, c.loop-id.invariant.before) at c.in_ok-n.ensures.commit in
    let n : c.in-Ok.n ≤ 1 = rw c.in-Ok.is at c.in_ok-n.ensures.most in
    let fewer = one_fewer c.args.commit c.args.work.now.before.rows columns (matches c.args.conditions.now) c.args.alteration.now (record { rows = c.loop-id.work.rows; count = c.loop-id.count }) c.loop-id.last c.args.table c.in-Some.id c.in-Some._row.now c.in-Some.ensures.rest c.in-Some.ensures.least.1 _ (record { rows = c.alter_row.new.work.rows; count = c.loop-id.count + c.in-Ok.n }) (done c.loop-id.count) (search rules) in
    record {
      rest = one_turn c.args.commit c.args.work.now.before.rows columns (matches c.args.conditions.now) c.args.alteration.now (record { rows = c.loop-id.work.rows; count = c.loop-id.count }) c.loop-id.last c.args.table c.in-Some.id c.in-Some._row.now c.in-Some.ensures.rest c.in-Some.ensures.least.1 _ (record { rows = c.alter_row.new.work.rows; count = c.loop-id.count + c.in-Ok.n })
          (alter_all c.args.commit c.args.work.now.before.rows columns (matches c.args.conditions.now) c.args.alteration.now c.args.table c.args.work.now.rows) (done c.loop-id.count) c.loop-id.invariant.rest (search rules);
      most = omega (arith, fewer, n, c.loop-id.invariant.most);
      before = c.in_ok-n.ensures.before ∙ c.loop-id.invariant.before;
      commit = λ k. commit (c.loop-id.invariant.commit k);
    }
