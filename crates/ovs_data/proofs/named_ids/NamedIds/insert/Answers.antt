use Rattle.std.specs.FinMap.{slice_cmp-IsAntisymmetric, nat_cmp-IsAntisymmetric}
use Rattle.std.specs.Cmp.Lexicographic.{nat_list_cmp_total}
use Rattle.ovs_data.proofs.Maps.{insert-lookup}
use Rattle.ovs_data.proofs.named_ids.NamedIds.insert.Goals as goal

pub returns-clause-value : goal.returns-clause-value
returns-clause-value c = rw (← c.self.view_is) (insert-lookup nat_list_cmp_total (slice_cmp-IsAntisymmetric nat_cmp-IsAntisymmetric) _ _ c.args.name c.args.id c.in_ok-insert.ensures.updates.0)
