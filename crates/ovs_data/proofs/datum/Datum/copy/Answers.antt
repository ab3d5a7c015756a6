use Rattle.std.proofs.Common.{rules}
use Rattle.ovs_data.proofs.datum.Datum.copy.Goals as goal

pub returns-clause-equal : goal.returns-clause-equal
returns-clause-equal c = search rules

pub returns-clause-ordered : goal.returns-clause-ordered
returns-clause-ordered c = search rules
