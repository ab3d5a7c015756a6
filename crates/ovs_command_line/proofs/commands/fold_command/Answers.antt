use Rattle.std.proofs.Common.{◌≡◌, ◌∙◌, ap, codes, rules}
use Rattle.std.proofs.lemmas.Result.{IfOk-weaker}
use Rattle.clap.specs.Words.{App, app_of, new_app, with_rule}
use Rattle.ovs_command_line.specs.CommandLine.{word_rule}
use Rattle.ovs_command_line.proofs.commands.fold_command.Goals as goal

pub returns : goal.returns
returns c =
    let about_is : app_of c.about-command.result ≡ new_app (codes "fold") = search rules in
    record { value = IfOk-weaker c.with_word.result _ _ (λ m is. is ∙ ap (λ (a : App). with_rule a (word_rule (codes "merge"))) about_is) c.with_word.ensures.value }
