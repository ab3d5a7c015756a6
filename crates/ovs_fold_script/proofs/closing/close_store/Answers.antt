use Rattle.std.proofs.Common.{ap₂, ◌∙◌}
use Rattle.ovs_fold_script.specs.Closing.{last_lines}
use Rattle.ovs_fold_script.proofs.closing.close_store.Goals as goal

pub returns-clause-text : goal.returns-clause-text
returns-clause-text c =
    c.in_ok-text.ensures.text ∙ ap₂ last_lines c.in_ok-settled.ensures.exact.0 c.in_ok-settled.ensures.exact.1
