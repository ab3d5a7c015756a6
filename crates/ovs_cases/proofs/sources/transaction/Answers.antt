use Rattle.std.proofs.Common.{sym, ap, subst, ◌∙◌}
use Rattle.std.specs.Prelude.{IfSome}
use Rattle.ovs_types.specs.Schema.{SchemaValue}
use Rattle.ovs_rows.specs.Change.{IsChangeOf}
use Rattle.ovs_links.specs.Store.{Stored}
use Rattle.ovs_cases.proofs.sources.transaction.Goals as goal

pub outcome-requires : goal.outcome-requires
outcome-requires c =
    let schema = c.schema.ensures.value ∙ ap (λ (s : Stored). s.schema) c.store.ensures.value in
    record { tables = subst (λ (s : SchemaValue). IfSome c.in-Ok.done.link (λ l. IsChangeOf s.description.tables l.change)) (sym schema) c.in-Ok.ensures.tables }
