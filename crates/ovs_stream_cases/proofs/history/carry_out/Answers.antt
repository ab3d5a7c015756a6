use Rattle.std.proofs.Common.{sym, subst}
use Rattle.ovs_rows.specs.Change.{Actions, IsChangeOf}
use Rattle.ovs_stream_cases.proofs.history.carry_out.Goals as goal

pub apply-requires : goal.apply-requires
apply-requires c = subst (λ (a : Actions). IsChangeOf c.args.database.now.schema.description.tables a) (sym c.change.ensures.value) c.requires.tables
