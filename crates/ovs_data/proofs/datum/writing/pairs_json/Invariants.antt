use Rattle.std.proofs.Common.{◌≡◌, take, map}
use Rattle.serde_json.specs.View.{view, items_view}
use Rattle.ovs_data.specs.Spelling.{SpellsBoth}
use Rattle.ovs_json.specs.Items.{SpellsEach}
use Rattle.ovs_data.specs.Writing.{pair_json}
use Rattle.ovs_data.proofs.datum.writing.pairs_json.Given as goal

abbrev pub invariant-loop-pair : goal.invariant-loop-pair
invariant-loop-pair l = record {
  written : map view l.items.items ≡ map pair_json (take l.pair-index l.pairs);
  spelled : SpellsEach SpellsBoth (items_view l.items.items) (take l.pair-index l.pairs);
}
