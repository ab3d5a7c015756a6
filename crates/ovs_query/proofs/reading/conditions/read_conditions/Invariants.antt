use Rattle.std.proofs.Common.{◌≡◌, drop}
use Rattle.serde_json.specs.View.{items_view}
use Rattle.ovs_json.specs.FirstFault.{items_of}
use Rattle.ovs_query.specs.ConditionReading.{read_items, read_condition, read_conditions}
use Rattle.ovs_query.proofs.reading.conditions.read_conditions.Given as goal

-- the items that are left, after those so far
abbrev pub invariant-loop-value : goal.invariant-loop-value
invariant-loop-value g l =
    read_items (read_condition (g.R.ValueReader.datum l.reader) l.columns) (items_of l.so_far) (items_view (drop l.value-index l.values))
    ≡ read_conditions (g.R.ValueReader.datum l.reader) l.columns (items_view l.values)
