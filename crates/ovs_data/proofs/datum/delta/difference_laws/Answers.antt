use Rattle.ovs_data.proofs.Differences.{changed_by-difference_of, is_empty-difference_of}
use Rattle.ovs_data.proofs.datum.delta.difference_laws.Goals as goal

pub returns : goal.returns
returns c = record { applied = changed_by-difference_of; empty = is_empty-difference_of }
