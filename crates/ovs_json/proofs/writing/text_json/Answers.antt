use Rattle.serde_json.specs.declared.value.Value.TheFolds.{the_lemmas}
use Rattle.std.proofs.Common.{rules}
use Rattle.ovs_json.proofs.writing.text_json.Goals as goal

pub returns : goal.returns
returns c = search (rules, the_lemmas)
