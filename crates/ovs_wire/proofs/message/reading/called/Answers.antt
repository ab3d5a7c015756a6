use Rattle.serde_json.specs.declared.value.Value.TheFolds.{the_lemmas}
use Rattle.std.proofs.Common.{rules}
use Rattle.ovs_wire.proofs.message.reading.called.Goals as goal

pub returns-in-Some : goal.returns-in-Some
returns-in-Some c = search (rules, the_lemmas)
