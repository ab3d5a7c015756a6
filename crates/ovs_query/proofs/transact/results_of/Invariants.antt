use Rattle.std.proofs.Common.{◌≡◌, ◌++◌, map, drop, false}
use Rattle.serde_json.specs.View.{view, items_view}
use Rattle.ovs_query.specs.Answer.{results}
use Rattle.ovs_query.proofs.transact.results_of.Given as goal

-- the results so far, and those of the operations that are left
abbrev pub invariant-loop-operation : goal.invariant-loop-operation
invariant-loop-operation l =
    let tables = l.database.schema.description.tables in
    map view l.answers.items ++ results tables l.database.rows l.failed (items_view (drop l.operation-index l.operations)) ≡ results tables l.database.rows false (items_view l.operations)
