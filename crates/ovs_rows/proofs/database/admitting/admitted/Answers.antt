use Rattle.ovs_rows.proofs.Admitting.{admitted_next}
use Rattle.ovs_rows.proofs.database.admitting.admitted.Goals as goal

pub loop-row-preserved : goal.loop-row-preserved
loop-row-preserved c =
    admitted_next c.args.tables.now c.args.touched.now c.loop-row.row-index c.row-item.result c.loop-row.rows.items c.in_ok-rows-2.rows.items
    c.loop-row-test.true c.row-item.is c.loop-row.invariant c.in_ok-rows-2.ensures.value
