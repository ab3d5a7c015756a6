use Rattle.ovs_query.proofs.Between.{step_between, step_row_between, updates_left_out, row_updates_left_out}
use Rattle.ovs_query.proofs.theorems.update_laws.Goals as goal

pub returns : goal.returns
returns c = record {
  between = λ ts ws a b us m all h k sorted step. step_between ts ws m all a b us h k sorted step;
  row_between = λ ts ws a b us m all h k sorted step. step_row_between ts ws m all a b us h k sorted step;
  left_out = λ ws us p sorted. updates_left_out ws us p sorted;
  row_left_out = λ ws us p sorted. row_updates_left_out ws us p sorted;
}
