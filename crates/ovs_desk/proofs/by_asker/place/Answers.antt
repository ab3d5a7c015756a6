use Rattle.std.proofs.Common.{arith, rules}
use Rattle.std.proofs.lemmas.List.Sorted.{IsPartitionPoint-from_clause}
use Rattle.ovs_desk.specs.declared.by_asker.ByAsker.{ByAsker}
use Rattle.ovs_desk.specs.ByAsker.{is_before}
use Rattle.ovs_desk.proofs.ByAskers.{partitioned, place_is}
use Rattle.ovs_desk.proofs.by_asker.place.Goals as goal

pub returns : goal.returns
returns c =
    let l = c.args.list.now in
    let a = c.args.one.now in
    let n = c.partition_point.result in
    let parts = IsPartitionPoint-from_clause (λ (b : ByAsker). is_before b a) l n c.partition_point.ensures.partitioned (partitioned a l c.requires.in_order) (λ b r f' called. search rules) in
    record { value = place_is a l n c.partition_point.ensures.bound (λ k d h. parts.0 k d (omega arith) h) (λ k d h m. parts.1 k d h m) }
