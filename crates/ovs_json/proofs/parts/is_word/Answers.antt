use Rattle.std.proofs.Common.{rules}
use Rattle.ovs_json.proofs.parts.is_word.Goals as goal

pub returns-in-Some : goal.returns-in-Some
returns-in-Some c = search rules
