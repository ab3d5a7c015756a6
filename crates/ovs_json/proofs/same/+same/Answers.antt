use Rattle.std.proofs.lemmas.Grind.{common_steps}
use Rattle.std.proofs.Common.{arith}
use Rattle.ovs_json.proofs.same.+same.Goals as goal

pub same_items-returns : goal.same_items-returns
same_items-returns c = grind (arith, common_steps)
