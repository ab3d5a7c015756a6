use Rattle.std.proofs.Common.{sym, subst}
use Rattle.ovs_rows.specs.Change.{Actions, IsChangeOf}
use Rattle.ovs_cases.proofs.sources.link_text.Goals as goal

pub change_text-requires : goal.change_text-requires
change_text-requires c =
    record { tables = subst (λ (d : Actions). IsChangeOf c.args.schema.now.description.tables d) (sym c.change.ensures.value) c.requires.tables }
