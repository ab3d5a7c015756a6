use Rattle.std.proofs.Common.{sym, ap, ◌∙◌}
use Rattle.std.specs.Prelude.{length, ◌==◌}
use Rattle.ovs_query.proofs.OneRow.{id_included}
use Rattle.ovs_query.proofs.conditions.id_includes.Goals as goal

pub returns-then-is_each : goal.returns-then-is_each
returns-then-is_each c = record {
  value = c.is_empty.ensures ∙ ap (λ ps. length ps == 0) c.pairs.ensures.value
      ∙ id_included c.args.id c.args.value.now (rw c.atoms.ensures.value at (sym c.is_each.ensures.value ∙ c.if-is_each.true));
}
