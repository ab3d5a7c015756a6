use Rattle.std.proofs.Common.{rules}
use Rattle.ovs_data.proofs.datum.Datum.get.Goals as goal

pub returns-in-Set : goal.returns-in-Set
returns-in-Set c = search rules
