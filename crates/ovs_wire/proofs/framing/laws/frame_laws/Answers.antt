use Rattle.ovs_wire.proofs.Cuts as cuts
use Rattle.ovs_wire.proofs.Exists.{each}
use Rattle.ovs_wire.proofs.Over as over
use Rattle.ovs_wire.proofs.Unique.{once}
use Rattle.ovs_wire.proofs.framing.laws.frame_laws.Goals as goal

pub returns-clause-exist : goal.returns-clause-exist
returns-clause-exist c = λ most. each

pub returns-clause-unique : goal.returns-clause-unique
returns-clause-unique c = λ most. once

pub returns-clause-cut : goal.returns-clause-cut
returns-clause-cut c = λ most. cuts.cut

pub returns-clause-too_deep : goal.returns-clause-too_deep
returns-clause-too_deep c = λ most. over.too_deep

pub returns-clause-too_long : goal.returns-clause-too_long
returns-clause-too_long c = λ most. over.too_long
