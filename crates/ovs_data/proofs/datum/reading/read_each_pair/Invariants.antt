use Rattle.std.proofs.Common.{◌≡◌, drop}
use Rattle.serde_json.specs.View.{items_view}
use Rattle.ovs_data.specs.Reading.{read_pair}
use Rattle.ovs_json.specs.Items.{read_items}
use Rattle.ovs_json.proofs.Steps.{with_front}
use Rattle.ovs_data.proofs.datum.reading.read_each_pair.Given as goal

abbrev pub invariant-loop-value : goal.invariant-loop-value
invariant-loop-value g l =
    with_front l.pairs.items (read_items (read_pair (g.R.AtomReader.atom l.reader) l.key l.kind) (items_view (drop l.value-index l.values))) ≡ read_items (read_pair (g.R.AtomReader.atom l.reader) l.key l.kind) (items_view l.values)
