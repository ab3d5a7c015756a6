use Rattle.ovs_data.proofs.Equalities.{datum_decides}
use Rattle.ovs_data.proofs.datum.Datum.same.Goals as goal

pub returns : goal.returns
returns c = record { equal = rw c.eq.ensures (datum_decides c.args.self.now c.args.other.now) }
