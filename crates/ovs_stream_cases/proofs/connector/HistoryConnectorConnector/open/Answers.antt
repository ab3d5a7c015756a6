use Rattle.std.proofs.Common.{◌≡◌, ℕ, List, true, false, sym, subst}
use Rattle.std.specs.Prelude.{Some}
use Rattle.std.specs.List.{All}
use Rattle.ovs_types.specs.Schema.{SchemaValue}
use Rattle.ovs_links.specs.Sets.{IsOfTables}
use Rattle.ovs_node_threads.specs.Lines.{AdmitsBytes, AmongHistory}
use Rattle.ovs_stream_cases.specs.Made.{one_epoch}
use Rattle.ovs_stream_cases.specs.Said.{IsSession}
use Rattle.ovs_stream_cases.proofs.AdmittedLinks.{begin_at_start, of_tables, session_admits}
use Rattle.ovs_stream_cases.proofs.connector.HistoryConnectorConnector.open.Goals as goal

pub session_bytes-requires-clause-tables : goal.session_bytes-requires-clause-tables
session_bytes-requires-clause-tables g c =
    let ls = c.as_slice-links.result.now in
    subst (λ (s : SchemaValue). All (IsOfTables s.description.tables) ls) (sym c.args.self.now.schema_is)
    (of_tables g.K.NodeName.schema.description.tables g.J.HistoryName.commits ls c.as_slice-links.ensures.history)

pub session_bytes-requires-clause-start : goal.session_bytes-requires-clause-start
session_bytes-requires-clause-start g c =
    begin_at_start g.K.NodeName.schema.description.tables g.J.HistoryName.commits c.as_slice-links.result.now c.as_slice-links.ensures.history

pub returns-in-Ok : goal.returns-in-Ok
returns-in-Ok g c =
    let schema : SchemaValue = g.K.NodeName.schema in
    let commits = g.J.HistoryName.commits in
    let ls = c.as_slice-links.result.now in
    let session : IsSession schema ls c.args.asked c.in-Ok.bytes.items =
    subst (λ (s : SchemaValue). IsSession s ls c.args.asked c.in-Ok.bytes.items) c.args.self.now.schema_is c.in-Ok.ensures.session in
    record {
      lawful = subst (λ (bytes : List ℕ). AdmitsBytes (AmongHistory schema (one_epoch commits)) c.args.asked (Some bytes)) (sym c.from_vec.ensures.items)
          (session_admits schema commits ls c.args.asked c.in-Ok.bytes.items c.as_slice-links.ensures.history session);
      copies = λ resyncs. absurd (let w : false ≡ true = resyncs in cc);
    }
