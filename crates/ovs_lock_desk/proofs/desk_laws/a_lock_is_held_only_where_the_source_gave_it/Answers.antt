use Rattle.ovs_lock_desk.proofs.Holding.{held_only, not_by_asking}
use Rattle.ovs_lock_desk.proofs.desk_laws.a_lock_is_held_only_where_the_source_gave_it.Goals as goal

pub returns : goal.returns
returns c = record {
  events = λ event l held. held_only event l held;
  asking = λ has_source session verb id l free. not_by_asking has_source session verb id l free;
}
