use Rattle.serde_json.specs.View.{view}
use Rattle.ovs_operations.specs.Owning.{owns}
use Rattle.ovs_operations.proofs.ReadLaws.{operation_kept}
use Rattle.ovs_operations.proofs.reading.operation.read_operation.Goals as goal

pub returns-clause-of_tables : goal.returns-clause-of_tables
returns-clause-of_tables c =
    let context = c.args.context.now in
    operation_kept context.names.now c.args.schema.now.description.tables (owns context.session context.locks.now) c.args.id (view c.args.operation.now) c.operation_of.result c.operation_of.ensures.exact
