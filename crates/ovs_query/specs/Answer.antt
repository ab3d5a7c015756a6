-- What a transaction that only reads answers, from one database (RFC 7047 section 4.1.3).
use Rattle.std.specs.Prelude.{◌≡◌, ◌<◌, ℕ, List, [], ◌∷◌, Bool, true, false, ◌||◌, Some, is_err, Result, Ok, Err, if◌then◌else◌, codes, option_and_then, length, slice_get}
use Rattle.std.specs.Option.{ok_or}
use Rattle.serde_json.specs.Data.{Data, null, object, no_members, Items, no_items, item}
use Rattle.serde_json.specs.Find.{get, as_str}
use Rattle.serde_json.specs.View.{view}
use Rattle.serde_json.specs.declared.value.Value.{Value}
use Rattle.ovs_json.specs.Parts.{is_first}
use Rattle.ovs_json.specs.Putting.{error_json}
use Rattle.ovs_json.specs.Results.{◌>>=◌, result_map}
use Rattle.ovs_types.specs.declared.schema.Table.{Table}
use Rattle.ovs_rows.specs.Row.{Rows}
use Rattle.ovs_query.specs.declared.error.QueryError.{QueryError}
use Rattle.ovs_query.specs.declared.error.QueryError.TheVariants.{BadOperation}
use Rattle.ovs_query.specs.Faults.{Read, query_text}
use Rattle.ovs_query.specs.ConditionReading.{plain}
use Rattle.ovs_query.specs.SelectReading.{read_select}
use Rattle.ovs_query.specs.RowWriting.{select_json}

-- ---- which transactions

-- whether an operation has this name
abbrev pub is_operation : List ℕ → Data → Bool
is_operation word d = is_first word (get (codes "op") d)

-- "select" and "comment" change nothing
abbrev pub only_reads : Data → Bool
only_reads d = is_operation (codes "select") d || is_operation (codes "comment") d

-- ---- what one operation gives

-- "comment" has a text
abbrev pub comment_result : Data → Read Data
comment_result d = do
  text ← ok_or (option_and_then as_str (get (codes "comment") d)) BadOperation
  Ok (object no_members)

-- the rows of a select
abbrev pub select_result : List Table → Rows → Data → Read Data
select_result tables rows d = result_map (λ s. select_json s rows) (read_select plain tables d)

abbrev pub result_of : List Table → Rows → Data → Read Data
result_of tables rows d = if is_operation (codes "comment") d then comment_result d else select_result tables rows d

-- what a call gave, as JSON data
abbrev pub seen : Result Value QueryError → Read Data
seen r = result_map view r

-- its result in the answer
abbrev pub told : Read Data → Data
told (Ok d) = d
told (Err e) = error_json (query_text e)

-- ---- the results of all

-- a result for each operation, where one before them has failed or none has; those after the first that fails are null
abbrev pub results : List Table → Rows → Bool → Items → List Data
results tables rows failed no_items = []
results tables rows true (item d ds) = null ∷ results tables rows true ds
results tables rows false (item d ds) = told (result_of tables rows d) ∷ results tables rows (is_err (result_of tables rows d)) ds

-- ---- the same in the words of the protocol

-- whether the operation at this place fails
abbrev pub FailsAt : List Table → Rows → List Data → ℕ → Type 0
FailsAt tables rows operations k = (d : Data) × (slice_get operations k ≡ Some d) × (is_err (result_of tables rows d) ≡ true)

-- a result for each operation: its own up to the first that fails, and null after it
pub record AreResults (tables : List Table) (rows : Rows) (operations : List Data) (answers : List Data) : Type 0 where
  pub count : length answers ≡ length operations
  pub own : (k : ℕ) (d : Data) → slice_get operations k ≡ Some d → ((j : ℕ) → j < k → FailsAt tables rows operations j → ⊥) → slice_get answers k ≡ Some (told (result_of tables rows d))
  pub rest : (j k : ℕ) → j < k → k < length operations → FailsAt tables rows operations j → slice_get answers k ≡ Some null
