use Rattle.ovs_recorded_source.proofs.Accounting.{accounted}
use Rattle.ovs_recorded_source.proofs.laws.every_run_of_a_source.Goals as goal

pub returns : goal.returns
returns c = record { accounted = λ start made left are. accounted start made left are }
