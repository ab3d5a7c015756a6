use Rattle.ovs_follow.proofs.Derived.{links_exist, links_once}
use Rattle.ovs_follow.proofs.laws.derived_laws.Goals as goal

pub returns : goal.returns
returns c = record { exist = links_exist; once = λ most. links_once }
