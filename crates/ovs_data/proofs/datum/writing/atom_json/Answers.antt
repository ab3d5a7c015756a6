use Rattle.serde_json.specs.declared.value.Value.TheFolds.{the_lemmas}
use Rattle.std.proofs.Common.{rules}
use Rattle.ovs_data.proofs.datum.writing.atom_json.Goals as goal

pub returns-in-Boolean-clause-value : goal.returns-in-Boolean-clause-value
returns-in-Boolean-clause-value c = search (rules, the_lemmas)

pub returns-in-Boolean-clause-spelled : goal.returns-in-Boolean-clause-spelled
returns-in-Boolean-clause-spelled c = search (rules, the_lemmas)
