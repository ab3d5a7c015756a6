use Rattle.std.proofs.Common.{sym, ◌∙◌}
use Rattle.std.specs.Cmp.Lexicographic.{nat_list_cmp_total}
use Rattle.ovs_data.proofs.Maps.{get-lookup}
use Rattle.ovs_data.proofs.named_ids.NamedIds.get.Goals as goal

pub returns : goal.returns
returns c = record { value = rw (← c.self.view_is) (c.copied.ensures ∙ c.get.ensures.value ∙ sym (get-lookup nat_list_cmp_total _ c.args.name.now)) }
