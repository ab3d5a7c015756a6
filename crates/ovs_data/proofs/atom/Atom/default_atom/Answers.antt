use Rattle.std.proofs.Common.{rules}
use Rattle.ovs_data.proofs.atom.Atom.default_atom.Goals as goal

pub returns-in-Boolean : goal.returns-in-Boolean
returns-in-Boolean c = search rules
