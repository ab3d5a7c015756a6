use Rattle.std.proofs.Common.{rules}
use Rattle.std.specs.Prelude.{nat_lt}
use Rattle.std.proofs.lemmas.List.Sorted.{IsPartitionPoint-from_clause, IsPartitionedBy-ltb}
use Rattle.ovs_desk.specs.declared.forwarded.Forwarded.{Forwarded}
use Rattle.ovs_desk.proofs.forwards.at_number.Goals as goal

pub returns-clause-value : goal.returns-clause-value
returns-clause-value c =
    let es = c.args.pending.now in
    let n = c.args.number in
    IsPartitionPoint-from_clause (λ (e : Forwarded). nat_lt e.number n) es c.partition_point.result c.partition_point.ensures.partitioned
    (IsPartitionedBy-ltb (λ (e : Forwarded). e.number) es n c.requires.ascend) (λ a r f' called. search rules)
