-- Two stores, of which the second takes the links of a second text and is merged into the first at the end.
use Rattle.std.specs.Prelude.{ℕ, ◌+◌, List, [], ◌++◌, Option, Some, None, Bool, ◌&&◌, Result, Ok, Err, is_ok, codes}
use Rattle.std.specs.FinMap.{empty}
use Rattle.ovs_types.specs.Schema.{SchemaValue}
use Rattle.ovs_links.specs.Store.{Stored, tables_of}
use Rattle.ovs_links.specs.Outcomes.{merge_answer, merged}
use Rattle.ovs_links.specs.declared.answer.MergeError.{MergeError}
use Rattle.ovs_links.specs.declared.answer.MergeError.TheVariants as errors
use Rattle.ovs_fold_script.specs.declared.words.LineRefusal.{LineRefusal}
use Rattle.ovs_fold_script.specs.declared.words.LineRefusal.TheVariants.{Fork, Full}
use Rattle.ovs_fold_script.specs.Reading.{link_of_line}
use Rattle.ovs_fold_script.specs.Intake.{line_outcome, store_after_line}
use Rattle.ovs_fold_script.specs.Closing.{end_text, is_whole_chain}
use Rattle.ovs_fold_script.specs.Words.{outcome_line, merge_line}

-- the store of the input, and that of the second text
pub record Stores : Type 0 where
  pub first : Stored
  pub second : Stored

-- a store of this schema with no link
abbrev pub no_links : SchemaValue → Stored
no_links schema = record { schema = schema; links = empty; folded = [] }

-- an m stands before the line's number; its first line is link line 1
abbrev pub second_answer : Stores → ℕ → Option (List ℕ) → List ℕ
second_answer stores n line = codes "m" ++ outcome_line (n + 1) (line_outcome stores.second line)

-- the first store stays as it is
abbrev pub stores_after_line : Stores → Option (List ℕ) → Stores
stores_after_line stores line =
    record { first = stores.first; second = store_after_line stores.second (link_of_line (tables_of stores.second) line) }

-- what is told where the stores aren't merged; want of memory isn't told
abbrev pub merge_refusal_of : MergeError → Option LineRefusal
merge_refusal_of (errors.Fork by prev id) = Some (Fork prev id)
merge_refusal_of errors.Full = Some Full
merge_refusal_of errors.NoMemory = None

abbrev pub refused_or_merged : Option LineRefusal → Result (Unit {0}) LineRefusal
refused_or_merged (Some refusal) = Err refusal
refused_or_merged None = Ok tt

-- what is told of merging, by what it answers
abbrev pub merging_of : Result (Unit {0}) MergeError → Result (Unit {0}) LineRefusal
merging_of (Ok u) = Ok tt
merging_of (Err error) = refused_or_merged (merge_refusal_of error)

-- how the two stores are merged, or why not
abbrev pub merging : Stores → Result (Unit {0}) LineRefusal
merging stores = merging_of (merge_answer stores.first.links stores.second.links)

-- how the stores were merged, and the last lines for what the first then is
abbrev pub stores_closing : Stores → List ℕ
stores_closing stores = merge_line (merging stores) ++ end_text (merged stores.first stores.second)

-- the stores were merged, and the chain isn't stuck
abbrev pub is_merged_whole : Stores → Bool
is_merged_whole stores = is_ok (merging stores) && is_whole_chain (merged stores.first stores.second)
