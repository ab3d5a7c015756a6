use Rattle.ovs_query.proofs.Mirroring.{step_mirrored, step_replaced}
use Rattle.ovs_query.proofs.Beginnings.{first_mirrored, first_replaced, applied_step, applied_rows}
use Rattle.ovs_query.proofs.theorems.monitor_laws.Goals as goal

pub returns : goal.returns
returns c = record {
  step = λ ts ws a b us m all h k sorted step. step_mirrored ts ws m all a b us h k sorted step;
  step_of_update = λ ts ws a b us m all h k sorted step. step_replaced ts ws m all a b us h k sorted step;
  first = first_mirrored;
  first_of_update = first_replaced;
  applying = applied_step;
  applied_rows = λ ts a c v h k. applied_rows ts a c v h k;
}
