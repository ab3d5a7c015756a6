use Rattle.std.proofs.Common.{◌≡◌, ◌+◌, ◌≤◌, length}
use Rattle.ovs_rows.specs.Row.{columns_at}
use Rattle.ovs_rows.specs.DatabaseDifference.{IsCommit}
use Rattle.ovs_rows.specs.Scanning.{rows_past}
use Rattle.ovs_operations.specs.Altering.{matches, alter_each, alter_all}
use Rattle.ovs_operations.proofs.altering.alter_rows.Given as goal

abbrev pub invariant-loop-id : goal.invariant-loop-id
invariant-loop-id l =
    let tables = l.fn.work.before.schema.description.tables in
    let columns = columns_at tables l.table in
    record {
      rest : alter_each l.commit l.fn.work.before.rows columns (matches l.conditions) l.alteration (record { rows = l.work.rows; count = l.count }) (rows_past l.table l.last l.work.rows)
          ≡ alter_all l.commit l.fn.work.before.rows columns (matches l.conditions) l.alteration l.table l.fn.work.rows;
      most : l.count + length (rows_past l.table l.last l.work.rows) ≤ l.most;
      before : l.work.before ≡ l.fn.work.before;
      commit : IsCommit tables l.fn.work.before.rows l.fn.work.rows l.commit → IsCommit tables l.fn.work.before.rows l.work.rows l.commit;
    }

abbrev pub decreases-loop-id : goal.decreases-loop-id
decreases-loop-id l = length (rows_past l.table l.last l.work.rows)
