use Rattle.std.proofs.Common.{◌∙◌, sym, refl, codes}
use Rattle.clap.specs.Words.{found_of, rows_of, subcommand_rows_of}
use Rattle.ovs_command_line.specs.Faults.{HasOptionFault}
use Rattle.ovs_command_line.proofs.CommandNames.{name_met, with_rows}
use Rattle.ovs_command_line.proofs.OptionFaults.{relay_fault, with_fault}
use Rattle.ovs_command_line.proofs.command_line.task_of.Goals as goal

pub returns-in_err-relay_options-clause-fault : goal.returns-in_err-relay_options-clause-fault
returns-in_err-relay_options-clause-fault c =
    let found = subcommand_rows_of c.args.matches.now in
    let rows = rows_of (found_of c.in-Some-subcommand_matches-2.relay.now) in
    let ensured = c.in-Some-subcommand_matches-2.ensures in
    let is = with_rows found (codes "relay") rows (sym (name_met c.args.matches.now) ∙ ensured.found.0 refl) ensured.rows in
    with_fault (HasOptionFault found) c.from_residual-in_err-relay_options.result c.in_err-relay_options.field-0.0 c.from_residual-in_err-relay_options.ensures.1
    (relay_fault found rows c.in_err-relay_options.field-0.0 is c.in_err-relay_options.ensures.fault)
