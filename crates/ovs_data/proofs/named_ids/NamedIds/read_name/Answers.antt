use Rattle.serde_json.specs.declared.value.Value.TheFolds.{the_lemmas}
use Rattle.std.proofs.Common.{rules}
use Rattle.ovs_data.proofs.named_ids.NamedIds.read_name.Goals as goal

pub returns-in_err-id : goal.returns-in_err-id
returns-in_err-id c = search (rules, the_lemmas)
