use Rattle.std.proofs.Common.{◌≡◌}
use Rattle.serde_json.specs.View.{members_view}
use Rattle.ovs_json.specs.FirstFault.{items_of, read_all}
use Rattle.ovs_types.specs.SchemaFaults.{rank}
use Rattle.ovs_json.proofs.FaultOrder.{with_rest}
use Rattle.ovs_types.proofs.schema.reading.read_members.Given as goal

abbrev pub invariant-loop-name : goal.invariant-loop-name
invariant-loop-name g l =
    with_rest rank (items_of l.so_far) (read_all rank g.M.SchemaMember.read (members_view l.name-iterator)) ≡ read_all rank g.M.SchemaMember.read (members_view l.members.entries)
