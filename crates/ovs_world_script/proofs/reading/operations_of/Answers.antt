use Rattle.std.proofs.Common.{Some, map, option_map, sym, ap, ◌∙◌}
use Rattle.serde_json.specs.View.{view}
use Rattle.ovs_wire.specs.Reading.{list_of}
use Rattle.ovs_wire.proofs.Lists.{list_again, copies_view}
use Rattle.ovs_world_script.proofs.reading.operations_of.Goals as goal

pub returns-in_ok-clone-in-Some : goal.returns-in_ok-clone-in-Some
returns-in_ok-clone-in-Some c =
    let values = c.in-Some.values.now.items in
    let copies = c.in_ok-clone-in-Some.field-0.items in
    let same = copies_view values copies c.in_ok-clone-in-Some.ensures.cases.0 ∙ sym (list_again (map view values)) in
    record { value = ap Some (c.new.ensures.value ∙ same) ∙ ap (option_map list_of) (rw c.in-Some.is at c.as_array.ensures) }
