use Rattle.std.proofs.Common.{rules}
use Rattle.ovs_data.proofs.datum.Datum.pairs.Goals as goal

pub returns-in-Map-clause-value : goal.returns-in-Map-clause-value
returns-in-Map-clause-value c = search rules
