use Rattle.ovs_reader.proofs.Parts.{goes_on, bounded, all_told, whole}
use Rattle.ovs_reader.proofs.laws.parts_make_the_whole.Goals as goal

pub returns : goal.returns
returns c = record { goes_on = goes_on; bounded = bounded; all = all_told; whole = whole }
