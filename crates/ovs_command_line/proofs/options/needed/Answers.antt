use Rattle.std.proofs.Common.{◌∙◌, ap, sym, refl}
use Rattle.clap.proofs.WalkLemmas.{first_value-rows}
use Rattle.clap.specs.Words.{first_value, found_of}
use Rattle.ovs_command_line.specs.Options.{option_name}
use Rattle.ovs_command_line.proofs.options.needed.Goals as goal

pub returns-in-Some-clause-value : goal.returns-in-Some-clause-value
returns-in-Some-clause-value c =
    let found = found_of c.args.found.now in
    sym (c.in-Some.ensures ∙ ap (first_value found) c.name.ensures.value ∙ first_value-rows found (option_name c.args.option))

pub returns-in-None-clause-fault : goal.returns-in-None-clause-fault
returns-in-None-clause-fault c =
    let found = found_of c.args.found.now in
    (refl, c.requires.needed, sym (c.in-None.ensures ∙ ap (first_value found) c.name.ensures.value ∙ first_value-rows found (option_name c.args.option)))
