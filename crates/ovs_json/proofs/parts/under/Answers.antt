use Rattle.std.proofs.Common.{rules}
use Rattle.ovs_json.proofs.parts.under.Goals as goal

pub returns-then-is_word : goal.returns-then-is_word
returns-then-is_word c = search rules
