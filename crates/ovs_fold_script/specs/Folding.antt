-- What the script `fold` writes for an input and perhaps a second text, whose links go into a store of their own.
use Rattle.std.specs.Prelude.{ℕ, List, [], ◌∷◌, Option, Bool, false, true, not, ◌&&◌, ◌||◌, Result, Ok, Err, is_ok}
use Rattle.ovs_types.specs.Schema.{SchemaValue}
use Rattle.ovs_links.specs.Store.{tables_of}
use Rattle.ovs_script.specs.Lines.{kept}
use Rattle.ovs_script.specs.Rules.{Rules}
use Rattle.ovs_script.specs.Texts.{Texts}
use Rattle.ovs_script.specs.Functions.{Functions, rules_of, script_output, is_content_with}
use Rattle.ovs_script.specs.declared.line_json.LineFault.TheVariants.{BadJson}
use Rattle.ovs_script.specs.declared.refusal.SchemaRefusal.{SchemaRefusal}
use Rattle.ovs_script.specs.declared.refusal.SchemaRefusal.TheVariants.{BadLine}
use Rattle.ovs_script.specs.FirstLine.{schema_of_line}
use Rattle.ovs_script.specs.Refusal.{schema_line, schema_answer}
use Rattle.ovs_fold_script.specs.declared.fold.FoldStage.{FoldStage}
use Rattle.ovs_fold_script.specs.declared.fold.FoldStage.TheVariants.{Schema, Links, Both, Missing, Over}
use Rattle.ovs_fold_script.specs.declared.fold.Fold.{Fold}
use Rattle.ovs_fold_script.specs.Reading.{link_of_line}
use Rattle.ovs_fold_script.specs.Intake.{line_outcome, is_refused, store_after_line}
use Rattle.ovs_fold_script.specs.Closing.{end_text, is_whole_chain}
use Rattle.ovs_fold_script.specs.Words.{outcome_line}
use Rattle.ovs_fold_script.specs.Stores.{no_links, second_answer, stores_after_line, stores_closing, is_merged_whole}

-- ---- the schema's line

-- links are taken into a store of no link
abbrev pub stage_after_schema : Result SchemaValue SchemaRefusal → FoldStage
stage_after_schema (Ok schema) = Links (no_links schema)
stage_after_schema (Err refusal) = Over

-- the first of an input's lines gives a schema
abbrev pub has_schema : List (List ℕ) → Bool
has_schema [] = false
has_schema (line ∷ lines) = is_ok (schema_of_line (kept line))

-- ---- the rules

-- what is written for line n; in the input the schema is line 0, and of the second text line 0 is its first link
abbrev pub answer_at : FoldStage → ℕ → Option (List ℕ) → List ℕ
answer_at Schema n line = schema_answer (schema_of_line line)
answer_at (Links s) n line = outcome_line n (line_outcome s line)
answer_at (Both stores) n line = second_answer stores n line
answer_at Missing n line = []
answer_at Over n line = []

abbrev pub after_at : FoldStage → Bool → Option (List ℕ) → Fold
after_at Schema refused line = record { stage = stage_after_schema (schema_of_line line); refused = refused }
after_at (Links s) refused line = record { stage = Links (store_after_line s (link_of_line (tables_of s) line)); refused = refused || is_refused (line_outcome s line) }
after_at (Both stores) refused line = record { stage = Both (stores_after_line stores line); refused = refused || is_refused (line_outcome stores.second line) }
after_at Missing refused line = record { stage = Missing; refused = refused }
after_at Over refused line = record { stage = Over; refused = refused }

-- where the schema was taken the second text's links go into a second store of it, and else it is passed over
abbrev pub second_at : FoldStage → FoldStage
second_at Schema = Missing
second_at (Links s) = Both (record { first = s; second = no_links s.schema })
second_at (Both stores) = Both stores
second_at Missing = Missing
second_at Over = Over

abbrev pub is_over_at : FoldStage → Bool
is_over_at Schema = false
is_over_at (Links s) = false
is_over_at (Both stores) = false
is_over_at Missing = true
is_over_at Over = true

-- the last words; no line at all is a refused schema
abbrev pub closing_at : FoldStage → List ℕ
closing_at Schema = schema_line (BadLine BadJson)
closing_at (Links s) = end_text s
closing_at (Both stores) = stores_closing stores
closing_at Missing = schema_line (BadLine BadJson)
closing_at Over = []

-- no line was refused, nor the merge, and the chain isn't stuck
abbrev pub is_content_at : FoldStage → Bool → Bool
is_content_at Schema refused = false
is_content_at (Links s) refused = not refused && is_whole_chain s
is_content_at (Both stores) refused = not refused && is_merged_whole stores
is_content_at Missing refused = false
is_content_at Over refused = false

abbrev pub fold_functions : Functions Fold
fold_functions = record {
  answer = λ f n line. answer_at f.stage n line;
  after = λ f n line. after_at f.stage f.refused line;
  at_second = λ f. record { stage = second_at f.stage; refused = f.refused };
  is_over = λ f. is_over_at f.stage;
  closing = λ f. closing_at f.stage;
  is_content = λ f. is_content_at f.stage f.refused;
}

abbrev pub fold_rules : Rules Fold
fold_rules = rules_of fold_functions

abbrev pub beginning : Fold
beginning = record { stage = Schema; refused = false }

-- ---- both texts

-- what `fold` writes for an input, and for a second text if there is one
abbrev pub fold_output : Texts → List ℕ
fold_output t = script_output fold_functions beginning t

-- whether nothing of both was refused, nor the merge, and the chain isn't stuck
abbrev pub is_clean : Texts → Bool
is_clean t = is_content_with fold_functions beginning t
