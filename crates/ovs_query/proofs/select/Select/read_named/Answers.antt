use Rattle.serde_json.specs.View.{view}
use Rattle.ovs_json.proofs.Given.{given_found, given_only, given_worst}
use Rattle.ovs_types.specs.NamedReading.{SpellsNamed}
use Rattle.ovs_query.specs.declared.error.QueryError.TheVariants as faults
use Rattle.ovs_query.specs.Faults.{rank}
use Rattle.ovs_query.specs.ConditionReading.{named}
use Rattle.ovs_query.specs.SelectReading.{read_select}
use Rattle.ovs_query.specs.SelectSpelling.{SpellsSelect, IsSelectOf}
use Rattle.ovs_query.specs.QueryFaults.{InNamed, InSelect}
use Rattle.ovs_query.proofs.SelectLaws.{select_found, select_only, named_found, named_only}
use Rattle.ovs_query.proofs.QueryFaulty.{select_worst, named_worst}
use Rattle.ovs_query.proofs.ShownFields.{select_of_tables}
use Rattle.ovs_query.proofs.select.Select.read_named.Goals as goal

pub returns-clause-found : goal.returns-clause-found
returns-clause-found c =
    let tables = c.args.schema.now.description.tables in
    let json = view c.args.value.now in
    let names = c.args.names.now in
    given_found faults.NoMemory (λ s. s) (SpellsSelect (SpellsNamed names) tables json) c.named_select.result (read_select (named names) tables json) (select_found (named names) (SpellsNamed names) (named_found names) tables json) c.named_select.ensures.exact

pub returns-clause-only : goal.returns-clause-only
returns-clause-only c = λ x spelled.
    let tables = c.args.schema.now.description.tables in
    let json = view c.args.value.now in
    let names = c.args.names.now in
    given_only faults.NoMemory (λ s. s) c.named_select.result (read_select (named names) tables json) x (select_only (named names) (SpellsNamed names) (named_only names) tables json x spelled) c.named_select.ensures.exact

pub returns-clause-worst : goal.returns-clause-worst
returns-clause-worst c = λ told.
    let tables = c.args.schema.now.description.tables in
    let json = view c.args.value.now in
    let names = c.args.names.now in
    given_worst faults.NoMemory (λ s. s) rank (InSelect (InNamed names) tables json) c.named_select.result (read_select (named names) tables json) c.named_select.ensures.exact told (select_worst (named names) (InNamed names) (named_worst names) tables json)

pub returns-clause-tables : goal.returns-clause-tables
returns-clause-tables c =
    let tables = c.args.schema.now.description.tables in
    let json = view c.args.value.now in
    let names = c.args.names.now in
    given_found faults.NoMemory (λ s. s) (IsSelectOf tables) c.named_select.result (read_select (named names) tables json)
    (λ s e. select_of_tables (SpellsNamed names) tables json s (select_found (named names) (SpellsNamed names) (named_found names) tables json s e)) c.named_select.ensures.exact
