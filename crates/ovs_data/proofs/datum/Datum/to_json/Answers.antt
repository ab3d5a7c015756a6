use Rattle.ovs_data.specs.Writing.{datum_json}
use Rattle.ovs_data.proofs.Writings.{has_float-datum, no_float, spelled_by}
use Rattle.ovs_data.proofs.datum.Datum.to_json.Goals as goal

pub returns-clause-spelled : goal.returns-clause-spelled
returns-clause-spelled c = spelled_by c.args.self.now c.datum_json.result c.datum_json.ensures.spelled

pub returns-clause-no_float : goal.returns-clause-no_float
returns-clause-no_float c = no_float (datum_json c.args.self.now) c.datum_json.result (has_float-datum c.args.self.now) c.datum_json.ensures.value
