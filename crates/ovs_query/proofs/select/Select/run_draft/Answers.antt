use Rattle.serde_json.specs.declared.value.Value.TheFolds.{the_lemmas}
use Rattle.std.proofs.Common.{rules}
use Rattle.ovs_query.proofs.select.Select.run_draft.Goals as goal

pub returns : goal.returns
returns c = search (rules, the_lemmas)
