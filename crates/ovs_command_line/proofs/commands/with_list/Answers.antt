use Rattle.std.proofs.Common.{◌≡◌, ◌∙◌, ap, rules}
use Rattle.std.proofs.lemmas.Result.{IfOk-weaker}
use Rattle.clap.specs.Words.{app_of, rule_of, with_rule}
use Rattle.ovs_command_line.specs.CommandLine.{list_rule}
use Rattle.ovs_command_line.proofs.commands.with_list.Goals as goal

pub returns : goal.returns
returns c =
    let option_is : rule_of c.help-option.result ≡ list_rule c.args.name.now = search rules in
    record { value = IfOk-weaker c.arg.result _ _ (λ m adds. adds.shape (search rules) ∙ ap (with_rule (app_of c.args.command)) option_is) c.arg.ensures }
