use Rattle.std.proofs.Common.{◌∙◌, ap, codes, Some}
use Rattle.clap.proofs.WalkLemmas.{first_value-rows}
use Rattle.clap.specs.Words.{found_of}
use Rattle.ovs_command_line.proofs.command_line.merge_of.Goals as goal

pub returns-in-None : goal.returns-in-None
returns-in-None c = record { value = c.in-None.ensures ∙ first_value-rows (found_of c.args.fold.now) (codes "merge") }

pub returns-in_ok-from_str-in-Some : goal.returns-in_ok-from_str-in-Some
returns-in_ok-from_str-in-Some c = record {
  value = ap Some c.in_ok-from_str-in-Some.ensures.ok ∙ c.in-Some.ensures ∙ first_value-rows (found_of c.args.fold.now) (codes "merge");
}
