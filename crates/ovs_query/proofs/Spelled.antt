-- What is told of a row stands for what it tells.
use Rattle.std.proofs.Common.{◌≡◌, ◌<◌, ◌^◌, ℕ, List, Option, Some, None}
use Rattle.std.specs.Prelude.{IfSome, option_map}
use Rattle.serde_json.specs.Data.{Data}
use Rattle.serde_json.specs.View.{view}
use Rattle.serde_json.specs.declared.value.Value.{Value}
use Rattle.ovs_types.specs.declared.schema.NamedColumn.{NamedColumn}
use Rattle.ovs_types.specs.Id.{id_text, read_id}
use Rattle.ovs_rows.specs.declared.change.Action.{Action}
use Rattle.ovs_rows.specs.declared.row_key.RowKey.{RowKey}
use Rattle.ovs_rows.specs.After.{TouchedRow}
use Rattle.ovs_rows.specs.ChangeWriting.{IsSpelledAction, IsSpelledUpdate}
use Rattle.ovs_query.specs.declared.monitor.Notation.{Notation}
use Rattle.ovs_query.specs.declared.monitor.Notation.TheVariants.{Update, Update2, Update3}
use Rattle.ovs_query.specs.declared.monitor.Watched.{Watched}
use Rattle.ovs_query.specs.Telling.{told_json, IsSpelledTold, IsSpelledRow}

-- the id of a row of which something is written
abbrev IsIdSpelled : ℕ → Option Value → Type 0
IsIdSpelled id row = IfSome row (λ _. (id < 2 ^ 128) × (read_id (id_text id) ≡ Some id))

update_spelled : (json : Action → Data) (columns : List NamedColumn) (p : RowKey) (action : Option Action) (row : Option Value)
    → option_map view row ≡ option_map json action → IfSome action (IsSpelledAction columns) → IsIdSpelled p.id row
    → IfSome action (λ a. IsSpelledUpdate columns (p, a))
update_spelled json columns p None row is spelled id = tt
update_spelled json columns p (Some a) None is spelled id = absurd cc
update_spelled json columns p (Some a) (Some v) is spelled id = (id.0, id.1, spelled)

pub row_spelled : (notation : Notation) (w : Watched) (t : TouchedRow) (row : Option Value) → option_map view row ≡ told_json notation w t
    → IsSpelledTold notation w t → IsIdSpelled t.place.id row → IsSpelledRow notation w t
row_spelled Update w t row is spelled id = tt
row_spelled Update2 w t row is spelled id = update_spelled _ _ t.place _ row is spelled id
row_spelled Update3 w t row is spelled id = update_spelled _ _ t.place _ row is spelled id
