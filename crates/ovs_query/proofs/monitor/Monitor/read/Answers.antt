use Rattle.std.proofs.Common.{subst}
use Rattle.serde_json.specs.View.{view}
use Rattle.ovs_json.proofs.Given.{given_found, given_only, given_worst}
use Rattle.ovs_query.specs.declared.error.QueryError.TheVariants as faults
use Rattle.ovs_query.specs.Faults.{rank}
use Rattle.ovs_query.specs.MonitorReading.{read_monitor}
use Rattle.ovs_query.specs.MonitorSpelling.{SpellsMonitor, ShowAllRows}
use Rattle.ovs_query.specs.MonitorFaults.{InMonitor}
use Rattle.ovs_query.specs.View.{IsMonitorOf}
use Rattle.ovs_query.proofs.MonitorLaws.{monitor_found, monitor_only}
use Rattle.ovs_query.proofs.MonitorFaulty.{monitor_worst}
use Rattle.ovs_query.proofs.Watching.{monitor_of_tables, all_rows_shown}
use Rattle.ovs_query.proofs.monitor.Monitor.read.Goals as goal

pub returns-clause-found : goal.returns-clause-found
returns-clause-found c =
    let tables = c.args.schema.now.description.tables in
    let json = view c.args.value.now in
    given_found faults.NoMemory (λ m. m) (SpellsMonitor c.args.notation tables json) c.monitor_of.result (read_monitor c.args.notation tables json) (monitor_found c.args.notation tables json) c.monitor_of.ensures.exact

pub returns-clause-only : goal.returns-clause-only
returns-clause-only c = λ x spelled.
    let tables = c.args.schema.now.description.tables in
    let json = view c.args.value.now in
    given_only faults.NoMemory (λ m. m) c.monitor_of.result (read_monitor c.args.notation tables json) x (monitor_only c.args.notation tables json x spelled) c.monitor_of.ensures.exact

pub returns-clause-worst : goal.returns-clause-worst
returns-clause-worst c = λ told.
    let tables = c.args.schema.now.description.tables in
    let json = view c.args.value.now in
    given_worst faults.NoMemory (λ m. m) rank (InMonitor c.args.notation tables json) c.monitor_of.result (read_monitor c.args.notation tables json) c.monitor_of.ensures.exact told (monitor_worst c.args.notation tables json)

pub returns-clause-tables : goal.returns-clause-tables
returns-clause-tables c =
    let tables = c.args.schema.now.description.tables in
    let json = view c.args.value.now in
    given_found faults.NoMemory (λ m. m) (λ m. IsMonitorOf tables m.watches) c.monitor_of.result (read_monitor c.args.notation tables json)
    (λ m e. monitor_of_tables c.args.notation tables json m (monitor_found c.args.notation tables json m e)) c.monitor_of.ensures.exact

pub returns-clause-all_rows : goal.returns-clause-all_rows
returns-clause-all_rows c = λ whole.
    let tables = c.args.schema.now.description.tables in
    let json = view c.args.value.now in
    given_found faults.NoMemory (λ m. m) (λ m. ShowAllRows m.watches) c.monitor_of.result (read_monitor c.args.notation tables json)
    (λ m e. all_rows_shown tables json m (subst (λ n. SpellsMonitor n tables json m) whole (monitor_found c.args.notation tables json m e))) c.monitor_of.ensures.exact
