use Rattle.std.proofs.Common.{◌≡◌, arith, sym, subst}
use Rattle.std.proofs.lemmas.Grind.{common_steps}
use Rattle.ovs_rows.specs.Row.{AreDataOf}
use Rattle.ovs_operations.specs.Mutating.{default_row}
use Rattle.ovs_operations.proofs.Mutated.{defaults_kept}
use Rattle.ovs_operations.proofs.mutating.default_row.Goals as goal

pub returns-clause-kept : goal.returns-clause-kept
returns-clause-kept c =
    let exact : c.new.result ≡ default_row c.args.columns.now = grind (arith, common_steps) in
    subst (AreDataOf c.args.columns.now) (sym exact) (defaults_kept c.args.columns.now)
