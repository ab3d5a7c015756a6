use Rattle.ovs_links.proofs.AbsorbingLemmas.{absorbed_by, absorbed_link, chain_begins, chain_push, onward, is_last}
use Rattle.ovs_links.proofs.laws.step_laws.Goals as goal

pub returns : goal.returns
returns c = record { next = absorbed_link; all = absorbed_by; begins = chain_begins; push = chain_push; onward = onward; last = is_last }
