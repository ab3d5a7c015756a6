-- The words for what becomes of a link's line.
use Rattle.std.specs.Prelude.{ℕ, List, ◌++◌, Result, Ok, Err, codes}
use Rattle.std.specs.Fmt.{decimal}
use Rattle.ovs_types.specs.Id.{id_text}
use Rattle.ovs_rows.specs.Faults.{change_word}
use Rattle.ovs_script.specs.LineJson.{line_word}
use Rattle.ovs_script.specs.Refusal.{refused_line}
use Rattle.ovs_fold_script.specs.declared.words.LineRefusal.{LineRefusal}
use Rattle.ovs_fold_script.specs.declared.words.LineRefusal.TheVariants as link
use Rattle.ovs_fold_script.specs.declared.words.LineOutcome.{LineOutcome}
use Rattle.ovs_fold_script.specs.declared.words.LineOutcome.TheVariants.{Took, Held, Refused}

-- why a link's line is refused; of a fork, the two ids of the held link
abbrev pub link_word : LineRefusal → List ℕ
link_word (link.BadLine fault) = line_word fault
link_word link.BadShape = codes "bad-shape"
link_word link.BadId = codes "bad-id"
link_word (link.BadChange fault) = change_word fault
link_word (link.Fork prev id) = codes "fork " ++ (id_text prev ++ (codes " " ++ id_text id))
link_word link.Full = codes "full"

-- the line for link line n
abbrev pub outcome_line : ℕ → LineOutcome → List ℕ
outcome_line n Took = decimal n ++ codes " took\n"
outcome_line n Held = decimal n ++ codes " held\n"
outcome_line n (Refused refusal) = refused_line n (link_word refusal)

-- the line that tells how two stores were merged
abbrev pub merge_line : Result (Unit {0}) LineRefusal → List ℕ
merge_line (Ok u) = codes "merge ok\n"
merge_line (Err refusal) = codes "merge refused " ++ (link_word refusal ++ codes "\n")
