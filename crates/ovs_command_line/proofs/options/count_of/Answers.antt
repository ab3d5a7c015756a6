use Rattle.std.proofs.Common.{◌∙◌, ap, sym, subst, refl, Some, None}
use Rattle.clap.proofs.WalkLemmas.{first_value-rows}
use Rattle.clap.specs.Words.{first_value, found_of, rows_of}
use Rattle.ovs_address.specs.Address.{SpellsNone}
use Rattle.ovs_command_line.specs.Options.{option_name, least, SpellsIfGiven}
use Rattle.ovs_command_line.specs.Values.{SpellsNumber}
use Rattle.ovs_command_line.proofs.OptionFaults.{count_fault}
use Rattle.ovs_command_line.proofs.options.count_of.Goals as goal

pub returns-in-None-clause-value : goal.returns-in-None-clause-value
returns-in-None-clause-value c =
    let found = found_of c.args.found.now in
    subst (λ word. SpellsIfGiven c.args.option word None)
    (c.in-None.ensures ∙ ap (first_value found) c.name.ensures.value ∙ first_value-rows found (option_name c.args.option)) refl

pub returns-in-Some-read_number-clause-value : goal.returns-in-Some-read_number-clause-value
returns-in-Some-read_number-clause-value c =
    let found = found_of c.args.found.now in
    subst (λ word. SpellsIfGiven c.args.option word (Some c.in-Some-read_number.count))
    (c.in-Some.ensures ∙ ap (first_value found) c.name.ensures.value ∙ first_value-rows found (option_name c.args.option)) (
      c.in-Some-read_number.count,
      refl,
      subst (λ most. SpellsNumber (least c.args.option) most c.in-Some.word.now c.in-Some-read_number.count) c.greatest.ensures.value
          (subst (λ n. SpellsNumber n c.greatest.result c.in-Some.word.now c.in-Some-read_number.count) c.least.ensures.value c.in-Some-read_number.ensures.value),
    )

pub returns-in-None-read_number-clause-fault : goal.returns-in-None-read_number-clause-fault
returns-in-None-read_number-clause-fault c =
    let found = found_of c.args.found.now in
    count_fault c.args.option (rows_of found) c.in-Some.word.now c.requires.counts
    (sym (c.in-Some.ensures ∙ ap (first_value found) c.name.ensures.value ∙ first_value-rows found (option_name c.args.option)))
    (subst (λ most. SpellsNone (SpellsNumber (least c.args.option) most) c.in-Some.word.now) c.greatest.ensures.value
    (subst (λ n. SpellsNone (SpellsNumber n c.greatest.result) c.in-Some.word.now) c.least.ensures.value c.in-None-read_number.ensures.value))
    c.no_value.result c.no_value.ensures.value
