use Rattle.std.proofs.Common.{◌∙◌, ap, codes, false}
use Rattle.std.specs.Option.{option_map_or}
use Rattle.std.specs.Str.{bytes_eq}
use Rattle.clap.proofs.WalkLemmas.{first_value-rows}
use Rattle.clap.specs.Words.{found_of}
use Rattle.ovs_command_line.proofs.options.has_flag.Goals as goal

pub returns-in-None : goal.returns-in-None
returns-in-None c = record {
  value = ap (λ o. option_map_or (λ word. bytes_eq word (codes "true")) o false) (c.in-None.ensures ∙ first_value-rows (found_of c.args.found.now) c.args.flag.now);
}

pub returns-in-Some : goal.returns-in-Some
returns-in-Some c = record {
  value = c.eq.ensures ∙ ap (λ o. option_map_or (λ word. bytes_eq word (codes "true")) o false) (c.in-Some.ensures ∙ first_value-rows (found_of c.args.found.now) c.args.flag.now);
}
