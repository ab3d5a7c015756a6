use Rattle.std.proofs.Common.{◌≡◌, List, [], ◌∷◌, ◌&&◌, refl, ap, ◌∙◌, is_some, rules, tests}
use Rattle.std.proofs.lemmas.Iterator.{YieldsList-from_slice}
use Rattle.std.proofs.lemmas.Iterator.Search.{all_from_yields_List}
use Rattle.std.specs.List.{list_all}
use Rattle.serde_json.specs.View.{view, items_view}
use Rattle.serde_json.specs.declared.value.Value.{Value}
use Rattle.ovs_json.specs.Parts.{two_items}
use Rattle.ovs_data.specs.Reading.{are_pairs}
use Rattle.ovs_data.proofs.datum.map_items.are_pairs.Goals as goal

all_pairs : (vs : List Value) → list_all (λ v. is_some (two_items (view v))) vs ≡ are_pairs (items_view vs)
all_pairs [] = refl
all_pairs (v ∷ vs) = ap (λ b. is_some (two_items (view v)) && b) (all_pairs vs)

pub returns : goal.returns
returns c = record {
  value = all_from_yields_List (λ v. is_some (two_items (view v))) _ _ c.all.result c.all.ensures.ran (YieldsList-from_slice c.args.items.now cc) (λ x b q k. search (rules, tests))
      ∙ all_pairs c.args.items.now;
}
