use Rattle.std.proofs.Common.{◌≤◌, length, refl, sym, ◌∙◌, arith}
use Rattle.std.proofs.lemmas.Bool.Decides.{nat_tests}
use Rattle.std.proofs.lemmas.Slice.Zip.{AllZip-long}
use Rattle.clap.specs.Words.{found_of, rows_of}
use Rattle.ovs_command_line.specs.Options.{words_of, SpellsUpstream}
use Rattle.ovs_command_line.specs.declared.command_option.CommandOption.TheVariants.{Upstream}
use Rattle.ovs_command_line.proofs.options.resyncs_of.Goals as goal

pub returns-then-upstreams-gt1-clause-fault : goal.returns-then-upstreams-gt1-clause-fault
returns-then-upstreams-gt1-clause-fault c =
    let rows = rows_of (found_of c.args.found.now) in
    let long = AllZip-long (SpellsUpstream rows) (words_of Upstream rows) c.args.upstreams.now c.requires.upstreams.0 in
    let several : 2 ≤ length (words_of Upstream rows) = grind (arith, nat_tests, long, c.if-upstreams-gt1.true) in
    (refl, (sym c.has_flag-resyncs.ensures.value ∙ c.if-resyncs.true, several))
