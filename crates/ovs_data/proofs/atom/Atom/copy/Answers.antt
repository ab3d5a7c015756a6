use Rattle.std.proofs.Common.{rules}
use Rattle.ovs_data.proofs.atom.Atom.copy.Goals as goal

pub returns-clause-equal : goal.returns-clause-equal
returns-clause-equal c = search rules
