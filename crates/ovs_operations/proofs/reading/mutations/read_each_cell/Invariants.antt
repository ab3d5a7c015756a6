use Rattle.std.proofs.Common.{◌≡◌, []}
use Rattle.std.specs.Prelude.{Ok}
use Rattle.serde_json.specs.View.{members_view}
use Rattle.ovs_json.specs.FirstFault.{items_of}
use Rattle.ovs_operations.specs.Reading.{read_members, read_cell}
use Rattle.ovs_operations.proofs.reading.mutations.read_each_cell.Given as goal

-- the members that are left, after those so far
abbrev pub invariant-loop-name : goal.invariant-loop-name
invariant-loop-name l =
    read_members (read_cell l.names l.columns) (items_of l.so_far) (members_view l.name-iterator) ≡ read_members (read_cell l.names l.columns) (Ok []) (members_view l.members.entries)
