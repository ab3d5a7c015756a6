use Rattle.serde_json.specs.declared.value.Value.TheFolds.{the_lemmas}
use Rattle.std.proofs.Common.{rules}
use Rattle.ovs_data.proofs.datum.reading.read_atom.Goals as goal

pub returns-in-Boolean-Bool-clause-plain : goal.returns-in-Boolean-Bool-clause-plain
returns-in-Boolean-Bool-clause-plain c = search (rules, the_lemmas)
