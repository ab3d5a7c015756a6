use Rattle.std.proofs.Common.{rules}
use Rattle.ovs_data.proofs.datum.Datum.contains.Goals as goal

pub returns-in-Map : goal.returns-in-Map
returns-in-Map c = search rules
