use Rattle.std.proofs.Common.{◌≡◌, [], drop}
use Rattle.std.specs.Prelude.{Ok}
use Rattle.serde_json.specs.View.{items_view}
use Rattle.ovs_json.specs.FirstFault.{items_of}
use Rattle.ovs_operations.specs.Reading.{read_items, read_mutation}
use Rattle.ovs_operations.proofs.reading.mutations.read_each_mutation.Given as goal

-- the items that are left, after those so far
abbrev pub invariant-loop-value : goal.invariant-loop-value
invariant-loop-value l =
    read_items (read_mutation l.names l.columns) (items_of l.so_far) (items_view (drop l.value-index l.values)) ≡ read_items (read_mutation l.names l.columns) (Ok []) (items_view l.values)
