use Rattle.std.proofs.Common.{rules}
use Rattle.ovs_data.proofs.datum.Datum.atoms.Goals as goal

pub returns-in-Set-clause-value : goal.returns-in-Set-clause-value
returns-in-Set-clause-value c = search rules
