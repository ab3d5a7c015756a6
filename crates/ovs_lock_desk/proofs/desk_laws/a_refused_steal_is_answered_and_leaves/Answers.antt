use Rattle.ovs_lock_desk.proofs.Refusals.{none_waits, answered_and_gone}
use Rattle.ovs_lock_desk.proofs.desk_laws.a_refused_steal_is_answered_and_leaves.Goals as goal

pub returns : goal.returns
returns c = record {
  none_waits = λ n l is. none_waits n l is;
  answered = λ n session l one is own. (answered_and_gone n session l one is own).0;
  leaves = λ n session l one is own. (answered_and_gone n session l one is own).1;
}
