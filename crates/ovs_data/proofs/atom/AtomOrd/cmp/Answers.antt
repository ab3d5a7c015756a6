use Rattle.std.proofs.Common.{rules}
use Rattle.ovs_data.proofs.atom.AtomOrd.cmp.Goals as goal

pub returns-in-Boolean-Boolean : goal.returns-in-Boolean-Boolean
returns-in-Boolean-Boolean c = search rules
