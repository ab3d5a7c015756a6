use Rattle.std.proofs.Common.{leb, ltb, rules, subst, sym}
use Rattle.std.specs.List.Sorted.{IsNonDecreasingBy}
use Rattle.std.proofs.lemmas.List.{take_rest}
use Rattle.std.proofs.lemmas.List.Sorted.{IsNonDecreasingBy-drop, IsPartitionPoint-from_clause, IsPartitionedBy-leb, IsPartitionedBy-ltb}
use Rattle.ovs_query.proofs.Shares.{share_of, table_of, tables_rise}
use Rattle.ovs_query.proofs.monitor.updates.rows_of_table.Goals as goal

pub returns : goal.returns
returns c =
    let all = c.args.applied.now in
    let number = c.args.number in
    let start = c.partition_point-start.result in
    let rest = take_rest all start in
    let rises = tables_rise all c.requires.ascending in
    let rest_rises = subst (IsNonDecreasingBy table_of) (sym rest) (IsNonDecreasingBy-drop table_of start all rises) in
    let first = IsPartitionPoint-from_clause (λ t. ltb (table_of t) number) _ _ c.partition_point-start.ensures.partitioned (IsPartitionedBy-ltb table_of _ number rises) (λ a r q k. search rules) in
    let last = IsPartitionPoint-from_clause (λ t. leb (table_of t) number) _ _ c.partition_point-count.ensures.partitioned (IsPartitionedBy-leb table_of _ number rest_rises) (λ a r q k. search rules) in
    record { value = share_of number all _ start c.partition_point-count.result rest first last }
