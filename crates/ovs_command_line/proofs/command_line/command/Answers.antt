use Rattle.std.proofs.Common.{◌∙◌, ap, map, sym, subst}
use Rattle.clap.specs.Words.{App, fault_of, is_simple, is_simple_and_free, subcommand_of, subcommand_rows_of, takes}
use Rattle.ovs_command_line.specs.CommandLine.{AskToRun, IsNamed}
use Rattle.ovs_command_line.proofs.CommandLines.{asked_of_error, fault_of_error, memory_of_error, no_task_of_error, not_asked, only_of_error}
use Rattle.ovs_command_line.proofs.CommandNames.{are_named}
use Rattle.ovs_command_line.proofs.TaskAnswers.{accepted_of_matches, asks_of_matches, fault_of_matches, only_of_matches}
use Rattle.ovs_command_line.proofs.command_line.command.Goals as goal

pub returns-in-Err-clause-accepted : goal.returns-in-Err-clause-accepted
returns-in-Err-clause-accepted g c taken readable =
    let words = map g.S.AsStr.text c.args.words.now in
    let same = c.in_ok-commands.ensures.value in
    memory_of_error c.in-Err.error _ words same (c.in-Err.ensures.kinds (ap is_simple_and_free same))
    (c.in-Err.ensures.passes (ap (λ (a : App). takes a words) same ∙ taken)) (AskToRun words) c.refused.result c.refused.ensures.value

pub returns-in-Err-clause-only : goal.returns-in-Err-clause-only
returns-in-Err-clause-only g c =
    let same = c.in_ok-commands.ensures.value in
    only_of_error c.in-Err.error _ (map g.S.AsStr.text c.args.words.now) same (c.in-Err.ensures.kinds (ap is_simple_and_free same)) c.refused.result
    c.refused.ensures.value

pub returns-in-Err-clause-asks : goal.returns-in-Err-clause-asks
returns-in-Err-clause-asks g c =
    let words = map g.S.AsStr.text c.args.words.now in
    let same = c.in_ok-commands.ensures.value in
    no_task_of_error c.in-Err.error _ words same (c.in-Err.ensures.kinds (ap is_simple_and_free same)) (AskToRun words) c.refused.result
    c.refused.ensures.value

pub returns-in-Err-clause-asked : goal.returns-in-Err-clause-asked
returns-in-Err-clause-asked g c asks =
    let same = c.in_ok-commands.ensures.value in
    asked_of_error c.in-Err.error _ (map g.S.AsStr.text c.args.words.now) same (c.in-Err.ensures.kinds (ap is_simple_and_free same)) asks c.refused.result
    c.refused.ensures.value

pub returns-in-Err-clause-fault : goal.returns-in-Err-clause-fault
returns-in-Err-clause-fault g c =
    let same = c.in_ok-commands.ensures.value in
    fault_of_error c.in-Err.error _ (map g.S.AsStr.text c.args.words.now) same (c.in-Err.ensures.kinds (ap is_simple_and_free same)) c.refused.result
    c.refused.ensures.value

pub task_of-requires : goal.task_of-requires
task_of-requires g c =
    let words = map g.S.AsStr.text c.args.words.now in
    let same = c.in_ok-commands.ensures.value in
    let found = (c.in-Ok.ensures.matches (ap is_simple same)).1 ∙ ap (λ (a : App). subcommand_of a words) same in
    let nothing = sym (ap (λ (a : App). fault_of a words) same) ∙ c.in-Ok.ensures.kinds (ap is_simple_and_free same) in
    record { named = subst IsNamed (sym found) (are_named words nothing) }

pub returns-clause-accepted : goal.returns-clause-accepted
returns-clause-accepted g c taken readable =
    let words = map g.S.AsStr.text c.args.words.now in
    let same = c.in_ok-commands.ensures.value in
    let found = (c.in-Ok.ensures.matches (ap is_simple same)).1 ∙ ap (λ (a : App). subcommand_of a words) same in
    accepted_of_matches words (subcommand_rows_of c.in-Ok.matches) found readable c.task_of.result c.task_of.ensures.task c.task_of.ensures.fault

pub returns-clause-only : goal.returns-clause-only
returns-clause-only g c =
    let words = map g.S.AsStr.text c.args.words.now in
    let same = c.in_ok-commands.ensures.value in
    let found = (c.in-Ok.ensures.matches (ap is_simple same)).1 ∙ ap (λ (a : App). subcommand_of a words) same in
    let nothing = sym (ap (λ (a : App). fault_of a words) same) ∙ c.in-Ok.ensures.kinds (ap is_simple_and_free same) in
    only_of_matches words (subcommand_rows_of c.in-Ok.matches) found nothing c.task_of.result c.task_of.ensures.task

pub returns-clause-asks : goal.returns-clause-asks
returns-clause-asks g c =
    let words = map g.S.AsStr.text c.args.words.now in
    let same = c.in_ok-commands.ensures.value in
    let found = (c.in-Ok.ensures.matches (ap is_simple same)).1 ∙ ap (λ (a : App). subcommand_of a words) same in
    asks_of_matches words (subcommand_rows_of c.in-Ok.matches) found c.task_of.result c.task_of.ensures.task

pub returns-clause-asked : goal.returns-clause-asked
returns-clause-asked g c asks =
    let words = map g.S.AsStr.text c.args.words.now in
    let same = c.in_ok-commands.ensures.value in
    absurd (not_asked words (sym (ap (λ (a : App). fault_of a words) same) ∙ c.in-Ok.ensures.kinds (ap is_simple_and_free same)) asks)

pub returns-clause-fault : goal.returns-clause-fault
returns-clause-fault g c =
    let words = map g.S.AsStr.text c.args.words.now in
    let same = c.in_ok-commands.ensures.value in
    let found = (c.in-Ok.ensures.matches (ap is_simple same)).1 ∙ ap (λ (a : App). subcommand_of a words) same in
    let nothing = sym (ap (λ (a : App). fault_of a words) same) ∙ c.in-Ok.ensures.kinds (ap is_simple_and_free same) in
    fault_of_matches words (subcommand_rows_of c.in-Ok.matches) found nothing c.task_of.result c.task_of.ensures.fault
