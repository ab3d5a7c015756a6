use Rattle.serde_json.specs.View.{view}
use Rattle.ovs_json.proofs.Given.{given_found, given_only, given_worst}
use Rattle.ovs_types.specs.Spelling.{Spells}
use Rattle.ovs_query.specs.declared.error.QueryError.TheVariants as faults
use Rattle.ovs_query.specs.Faults.{rank}
use Rattle.ovs_query.specs.ConditionReading.{plain}
use Rattle.ovs_query.specs.SelectReading.{read_select}
use Rattle.ovs_query.specs.SelectSpelling.{SpellsSelect, IsSelectOf}
use Rattle.ovs_query.specs.QueryFaults.{InPlain, InSelect}
use Rattle.ovs_query.proofs.SelectLaws.{select_found, select_only, plain_found, plain_only}
use Rattle.ovs_query.proofs.QueryFaulty.{select_worst, plain_worst}
use Rattle.ovs_query.proofs.ShownFields.{select_of_tables}
use Rattle.ovs_query.proofs.select.Select.read.Goals as goal

pub returns-clause-found : goal.returns-clause-found
returns-clause-found c =
    let tables = c.args.schema.now.description.tables in
    let json = view c.args.value.now in
    given_found faults.NoMemory (λ s. s) (SpellsSelect Spells tables json) c.select_of.result (read_select plain tables json) (select_found plain Spells plain_found tables json) c.select_of.ensures.exact

pub returns-clause-only : goal.returns-clause-only
returns-clause-only c = λ x spelled.
    let tables = c.args.schema.now.description.tables in
    let json = view c.args.value.now in
    given_only faults.NoMemory (λ s. s) c.select_of.result (read_select plain tables json) x (select_only plain Spells plain_only tables json x spelled) c.select_of.ensures.exact

pub returns-clause-worst : goal.returns-clause-worst
returns-clause-worst c = λ told.
    let tables = c.args.schema.now.description.tables in
    let json = view c.args.value.now in
    given_worst faults.NoMemory (λ s. s) rank (InSelect InPlain tables json) c.select_of.result (read_select plain tables json) c.select_of.ensures.exact told (select_worst plain InPlain plain_worst tables json)

pub returns-clause-tables : goal.returns-clause-tables
returns-clause-tables c =
    let tables = c.args.schema.now.description.tables in
    let json = view c.args.value.now in
    given_found faults.NoMemory (λ s. s) (IsSelectOf tables) c.select_of.result (read_select plain tables json)
    (λ s e. select_of_tables Spells tables json s (select_found plain Spells plain_found tables json s e)) c.select_of.ensures.exact
