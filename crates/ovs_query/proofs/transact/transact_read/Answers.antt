use Rattle.std.proofs.Common.{ap, map, false, ◌∙◌}
use Rattle.serde_json.specs.Data.{array}
use Rattle.serde_json.specs.View.{view, items_view, items_of}
use Rattle.serde_json.proofs.Views.{view-Array}
use Rattle.ovs_query.specs.Answer.{results}
use Rattle.ovs_query.proofs.AnswerLaws.{are_results}
use Rattle.ovs_query.proofs.transact.transact_read.Goals as goal

pub returns-clause-each : goal.returns-clause-each
returns-clause-each c =
    let tables = c.args.database.now.schema.description.tables in
    let rows = c.args.database.now.rows in (
      results tables rows false (items_view c.args.operations.now),
      view-Array c.in_ok-results_of.field-0 ∙ ap (λ ds. array (items_of ds)) c.in_ok-results_of.ensures.value,
      are_results tables rows (map view c.args.operations.now),
    )
