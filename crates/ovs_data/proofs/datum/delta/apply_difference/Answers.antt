use Rattle.std.proofs.Common.{sym}
use Rattle.ovs_data.proofs.Differences.{applied_from, only_from, kept_from}
use Rattle.ovs_data.proofs.datum.delta.apply_difference.Goals as goal

pub returns-else-is_single-clause-applied : goal.returns-else-is_single-clause-applied
returns-else-is_single-clause-applied c =
    applied_from c.args.column.now c.args.old.now c.args.diff.now c.exchanged.result (sym c.if-is_single.ensures.single) c.exchanged.ensures.exchange

pub returns-else-is_single-clause-only : goal.returns-else-is_single-clause-only
returns-else-is_single-clause-only c =
    only_from c.args.column.now c.args.old.now c.args.diff.now c.exchanged.result (sym c.if-is_single.ensures.single) c.exchanged.ensures.exchange c.exchanged.ensures.ordered

pub returns-else-is_single-clause-kept : goal.returns-else-is_single-clause-kept
returns-else-is_single-clause-kept c =
    kept_from c.args.column.now c.args.old.now c.args.diff.now c.exchanged.result (sym c.if-is_single.ensures.single) c.exchanged.ensures.exchange c.exchanged.ensures.ordered
