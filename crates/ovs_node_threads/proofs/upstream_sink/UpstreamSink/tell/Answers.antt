use Rattle.std.proofs.Common.{sym, subst}
use Rattle.ovs_types.specs.Schema.{SchemaValue}
use Rattle.ovs_rows.specs.Change.{Actions, IsChangeOf}
use Rattle.ovs_links.specs.Sets.{IsOfTables}
use Rattle.ovs_node_threads.proofs.upstream_sink.UpstreamSink.tell.Goals as goal

pub rows_in-requires : goal.rows_in-requires
rows_in-requires g c =
    let own = subst (λ (s : SchemaValue). IsOfTables s.description.tables c.args.link.now) (sym c.args.self.now.schema_is) c.requires.tables in
    record { tables = subst (λ (change : Actions). IsChangeOf c.args.self.now.schema.now.description.tables change) (sym c.change.ensures.value) own }
