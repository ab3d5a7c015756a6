use Rattle.ovs_wire.proofs.Beginnings.{cut_anywhere}
use Rattle.ovs_wire.proofs.Counts.{balanced_counted, begun_counted}
use Rattle.ovs_wire.proofs.Cuts.{only_objects}
use Rattle.ovs_wire.proofs.Over.{object_or_large}
use Rattle.ovs_wire.proofs.framing.laws.balanced_text_laws.Goals as goal

pub returns : goal.returns
returns c = record {
  depth = balanced_counted;
  begun_depth = begun_counted;
  frames = λ most. only_objects;
  sizes = λ most. object_or_large;
  cut = λ most. cut_anywhere;
}
