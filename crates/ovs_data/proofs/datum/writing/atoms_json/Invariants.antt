use Rattle.std.proofs.Common.{◌≡◌, take, map}
use Rattle.serde_json.specs.View.{view, items_view}
use Rattle.ovs_data.specs.Spelling.{SpellsValue}
use Rattle.ovs_json.specs.Items.{SpellsEach}
use Rattle.ovs_data.specs.Writing.{atom_json}
use Rattle.ovs_data.proofs.datum.writing.atoms_json.Given as goal

abbrev pub invariant-loop-atom : goal.invariant-loop-atom
invariant-loop-atom l = record {
  written : map view l.items.items ≡ map atom_json (take l.atom-index l.atoms);
  spelled : SpellsEach SpellsValue (items_view l.items.items) (take l.atom-index l.atoms);
}
