-- JSON's items as a list, and back; and copies of JSON values.
use Rattle.std.proofs.Common.{◌≡◌, List, [], ◌∷◌, map, refl, ap}
use Rattle.std.specs.List.{AllZip}
use Rattle.serde_json.specs.Data.{Data, Items, no_items, item}
use Rattle.serde_json.specs.View.{items_of, view}
use Rattle.serde_json.specs.declared.value.Value.{Value}
use Rattle.ovs_wire.specs.Reading.{list_of}

pub list_again : (ds : List Data) → list_of (items_of ds) ≡ ds
list_again [] = refl
list_again (d ∷ ds) = ap (λ l. d ∷ l) (list_again ds)

pub items_again : (ds : Items) → items_of (list_of ds) ≡ ds
items_again no_items = refl
items_again (item d ds) = ap (item d) (items_again ds)

pub copies_view : (values copies : List Value) → AllZip (λ v w. view w ≡ view v) values copies
    → map view copies ≡ map view values
copies_view [] [] same = refl
copies_view [] (w ∷ copies) same = absurd same
copies_view (v ∷ values) [] same = absurd same
copies_view (v ∷ values) (w ∷ copies) same = λ i. same.0 i ∷ copies_view values copies same.1 i
