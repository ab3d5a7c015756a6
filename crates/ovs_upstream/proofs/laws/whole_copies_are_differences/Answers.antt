use Rattle.ovs_upstream.proofs.Resumed.{copy_leads, copy_refused, copy_unmoved, same_derived}
use Rattle.ovs_upstream.proofs.laws.whole_copies_are_differences.Goals as goal

pub returns : goal.returns
returns c = record { leads = copy_leads; unmoved = copy_unmoved; refused = copy_refused; same = same_derived }
