-- What becomes of a link's line.
use Rattle.std.specs.Prelude.{ℕ, List, Bool, true, false, Option, Some, None, Result, Ok, Err}
use Rattle.ovs_links.specs.declared.link.Link.{Link}
use Rattle.ovs_links.specs.declared.answer.Took.{Took as Taken}
use Rattle.ovs_links.specs.declared.answer.Took.TheVariants as answers
use Rattle.ovs_links.specs.declared.answer.TakeError.{TakeError}
use Rattle.ovs_links.specs.declared.answer.TakeError.TheVariants as errors
use Rattle.ovs_links.specs.Store.{Stored, tables_of}
use Rattle.ovs_links.specs.Outcomes.{take_answer, taken}
use Rattle.ovs_fold_script.specs.declared.words.LineRefusal.{LineRefusal}
use Rattle.ovs_fold_script.specs.declared.words.LineRefusal.TheVariants.{Fork, Full}
use Rattle.ovs_fold_script.specs.declared.words.LineOutcome.{LineOutcome}
use Rattle.ovs_fold_script.specs.declared.words.LineOutcome.TheVariants.{Took, Held, Refused}
use Rattle.ovs_fold_script.specs.Reading.{link_of_line}

-- what is told where the store doesn't take a link; want of memory isn't told
abbrev pub refusal_of : TakeError → Option LineRefusal
refusal_of (errors.Fork l by prev id) = Some (Fork prev id)
refusal_of (errors.Full l) = Some Full
refusal_of (errors.NoMemory l) = None

-- with no refusal it is a new link
abbrev pub refused_or_took : Option LineRefusal → LineOutcome
refused_or_took (Some refusal) = Refused refusal
refused_or_took None = Took

-- what is told of a link, by what taking it answers
abbrev pub outcome_of : Result Taken TakeError → LineOutcome
outcome_of (Ok answers.New) = Took
outcome_of (Ok answers.Held) = Held
outcome_of (Err error) = refused_or_took (refusal_of error)

abbrev pub outcome_of_line : Stored → Result Link LineRefusal → LineOutcome
outcome_of_line s (Ok l) = outcome_of (take_answer s.links l)
outcome_of_line s (Err refusal) = Refused refusal

abbrev pub store_after_line : Stored → Result Link LineRefusal → Stored
store_after_line s (Ok l) = taken s l
store_after_line s (Err refusal) = s

-- ---- a line

abbrev pub is_refused : LineOutcome → Bool
is_refused Took = false
is_refused Held = false
is_refused (Refused refusal) = true

abbrev pub line_outcome : Stored → Option (List ℕ) → LineOutcome
line_outcome s line = outcome_of_line s (link_of_line (tables_of s) line)
