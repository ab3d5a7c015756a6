-- The schema that a text begins with.
use Rattle.std.specs.Prelude.{◌≡◌, ℕ, ◌+◌, ◌≤◌, List, [], ◌∷◌, Option, Result, Ok, Err}
use Rattle.std.specs.Io.KnownBytes.{Appends}
use Rattle.ovs_types.specs.Schema.{SchemaValue}
use Rattle.ovs_wire.specs.Counted.{Counting, one_more}
use Rattle.ovs_script.specs.declared.line_json.LineFault.TheVariants.{BadJson}
use Rattle.ovs_script.specs.declared.refusal.SchemaRefusal.{SchemaRefusal}
use Rattle.ovs_script.specs.declared.refusal.SchemaRefusal.TheVariants.{BadLine}
use Rattle.ovs_script.specs.declared.run_end.RunEnd.{RunEnd}
use Rattle.ovs_script.specs.declared.run_end.RunEnd.TheVariants.{ReadFault}
use Rattle.ovs_script.specs.FirstLine.{schema_of_line}
use Rattle.ovs_script.specs.Lines.{lines_of, kept}
use Rattle.ovs_script.specs.Refusal.{schema_line}
use Rattle.ovs_script.specs.RunEnd.{writes_failed_by}
use Rattle.ovs_script.specs.Turns.{most_turns}

-- the schema that the first of these lines gives; where there is none it is refused as no JSON
abbrev pub schema_of_first : List (List ℕ) → Result SchemaValue SchemaRefusal
schema_of_first [] = Err (BadLine BadJson)
schema_of_first (line ∷ lines) = schema_of_line (kept line)

-- the schema that a text's first line gives, or why it is refused
abbrev pub schema_of_text : List ℕ → Result SchemaValue SchemaRefusal
schema_of_text text = schema_of_first (lines_of text)

-- a schema that is answered is the text's
abbrev pub GivesSchema : Result SchemaValue RunEnd → List ℕ → Type 0
GivesSchema (Ok schema) text = schema_of_text text ≡ Ok schema
GivesSchema (Err end) text = Unit {0}

-- the text's schema is refused, and all that is written is the line that tells it
abbrev pub WritesRefusal : List ℕ → Option (List ℕ) → Option (List ℕ) → Type 0
WritesRefusal text before now = (refusal : SchemaRefusal) × (schema_of_text text ≡ Err refusal) × Appends before now (schema_line refusal)

-- ---- what is counted

-- the failures counted of the reader, which had so many before: one more exactly where the answer is a read fault
abbrev pub reads_failed_by : {T : Type 0} → ℕ → Result T RunEnd → ℕ
reads_failed_by n (Err ReadFault) = one_more n
reads_failed_by n _ = n

abbrev pub writes_failed_in : {T : Type 0} → ℕ → Result T RunEnd → ℕ
writes_failed_in n (Ok value) = n
writes_failed_in n (Err end) = writes_failed_by n end

-- at most 1,000,000 calls are made, and the answer tells which device failed
pub record CountsSchema {R W T : Type 0} (reader reader' : Counting R) (writer writer' : Counting W) (answer : Result T RunEnd) : Type 0 where
  pub calls : reader'.calls + writer'.calls ≤ reader.calls + writer.calls + most_turns
  pub reads : reader'.failures ≡ reads_failed_by reader.failures answer
  pub writes : writer'.failures ≡ writes_failed_in writer.failures answer

-- each call on the writer spends a turn, and the end tells whether one failed
pub record EndCounts {W : Type 0} (writer writer' : Counting W) (turns turns' : ℕ) (end : RunEnd) : Type 0 where
  pub calls : writer'.calls + turns' ≤ writer.calls + turns
  pub writes : writer'.failures ≡ writes_failed_by writer.failures end
