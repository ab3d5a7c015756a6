use Rattle.std.proofs.Common.{◌∙◌, ap}
use Rattle.clap.proofs.WalkLemmas.{first_value-rows}
use Rattle.clap.specs.Words.{first_value, found_of}
use Rattle.ovs_command_line.specs.Options.{option_name}
use Rattle.ovs_command_line.proofs.options.word_of.Goals as goal

pub returns : goal.returns
returns c =
    let found = found_of c.args.found.now in
    record { value = c.get_str.ensures ∙ ap (first_value found) c.name.ensures.value ∙ first_value-rows found (option_name c.args.option) }
