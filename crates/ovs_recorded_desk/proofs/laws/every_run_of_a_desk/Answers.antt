use Rattle.ovs_recorded_desk.proofs.Accounting.{accounted}
use Rattle.ovs_recorded_desk.proofs.laws.every_run_of_a_desk.Goals as goal

pub returns : goal.returns
returns c = record { accounted = λ database made are. accounted database made are }
