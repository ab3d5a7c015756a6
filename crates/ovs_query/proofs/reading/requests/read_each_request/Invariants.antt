use Rattle.std.proofs.Common.{◌≡◌, drop}
use Rattle.serde_json.specs.View.{items_view}
use Rattle.ovs_json.specs.FirstFault.{items_of}
use Rattle.ovs_query.specs.ConditionReading.{read_items}
use Rattle.ovs_query.specs.MonitorReading.{read_request, read_each_request}
use Rattle.ovs_query.proofs.reading.requests.read_each_request.Given as goal

-- the items that are left, after those so far
abbrev pub invariant-loop-value : goal.invariant-loop-value
invariant-loop-value l = read_items (read_request l.notation l.table) (items_of l.so_far) (items_view (drop l.value-index l.values)) ≡ read_each_request l.notation l.table (items_view l.values)
