use Rattle.ovs_wire.proofs.Larger.{frames_too, frames_first, framers_tell_same}
use Rattle.ovs_wire.proofs.framing.laws.limit_laws.Goals as goal

pub returns : goal.returns
returns c = record {
  same = λ most other. frames_too;
  first = λ most other. frames_first;
  framers = λ most other. framers_tell_same;
}
