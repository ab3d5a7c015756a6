use Rattle.std.proofs.Common.{◌∙◌}
use Rattle.ovs_query.proofs.OneRow.{id_excluded}
use Rattle.ovs_query.proofs.conditions.id_excludes.Goals as goal

pub returns : goal.returns
returns c = record { value = rw c.atoms.ensures.value at c.is_none.ensures.value ∙ id_excluded c.args.id c.args.value.now }
