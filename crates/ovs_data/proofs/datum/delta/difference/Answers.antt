use Rattle.std.proofs.Common.{rules, sym}
use Rattle.ovs_data.proofs.Differences.{kept_from}
use Rattle.ovs_data.proofs.datum.delta.difference.Goals as goal

pub returns-else-is_single-clause-kept : goal.returns-else-is_single-clause-kept
returns-else-is_single-clause-kept c =
    kept_from c.args.column.now c.args.old.now c.args.new.now c.exchanged.result (sym c.if-is_single.ensures.single) c.exchanged.ensures.exchange c.exchanged.ensures.ordered

pub returns-then-is_single-clause-difference : goal.returns-then-is_single-clause-difference
returns-then-is_single-clause-difference c = search rules

pub returns-then-is_single-clause-exact : goal.returns-then-is_single-clause-exact
returns-then-is_single-clause-exact c = search rules
