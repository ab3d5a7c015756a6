-- What a transaction does: its answers, and the rows after it (RFC 7047 section 4.1.3).
use Rattle.std.specs.Prelude.{ℕ, List, [], ◌∷◌, Bool, map, Option, Some, None, Ok, Err}
use Rattle.serde_json.specs.Data.{Data, null}
use Rattle.ovs_json.specs.Putting.{error_json}
use Rattle.ovs_json.specs.Results.{◌>>=◌}
use Rattle.ovs_types.specs.declared.schema.Table.{Table}
use Rattle.ovs_types.specs.NamedReading.{NamedIds}
use Rattle.ovs_rows.specs.Row.{Rows}
use Rattle.ovs_operations.specs.declared.operation_error.OperationError.{OperationError}
use Rattle.ovs_operations.specs.Carrying.{Done, carried_out}
use Rattle.ovs_operations.specs.OperationError.{Read, fault_text}
use Rattle.ovs_operations.specs.Reading.{read_operation}

-- what the operations of a transaction are carried out with: the tables, the ids of its names, the locks that its session owns, the id of
-- the commit that it makes, and the rows before it
pub record TransactionContext : Type 0 where
  pub tables : List Table
  pub names : NamedIds
  pub owns : List ℕ → Bool
  pub commit : ℕ
  pub before : Rows

-- one operation on the rows that those before it left; an insert is given an id
abbrev pub outcome_of : TransactionContext → Option ℕ → Data → Rows → Read Done
outcome_of s id d rows = read_operation s.names s.tables s.owns id d >>= λ operation. carried_out s.tables s.commit s.before operation rows

-- an answer for each operation, and the rows after them, if none failed
pub record Effect : Type 0 where
  pub answers : List Data
  pub rows : Option Rows

abbrev pub with_answer : Data → Effect → Effect
with_answer answer e = record { answers = answer ∷ e.answers; rows = e.rows }

-- what is answered where an operation and those after it have come to this: after one that fails none is carried out
abbrev pub effect_after : List Data → Read Done → (Rows → Effect) → Effect
effect_after ds (Ok done) rest = with_answer done.answer (rest done.rows)
effect_after ds (Err f) rest = record { answers = error_json (fault_text f) ∷ map (λ d. null) ds; rows = None }

-- the id that the first of the operations is given, if it is given one
abbrev pub first_given : List (Option ℕ) → Option ℕ
first_given [] = None
first_given (id ∷ ids) = id

abbrev pub later_given : List (Option ℕ) → List (Option ℕ)
later_given [] = []
later_given (id ∷ ids) = ids

-- the operations one after the other, each with the id that it is given
abbrev pub effect : TransactionContext → List Data → List (Option ℕ) → Rows → Effect
effect s [] ids rows = record { answers = []; rows = Some rows }
effect s (d ∷ ds) ids rows = effect_after ds (outcome_of s (first_given ids) d rows) (effect s ds (later_given ids))
