use Rattle.std.proofs.Common.{Some}
use Rattle.serde_json.specs.View.{view}
use Rattle.ovs_json.proofs.Given.{given_found, given_only, given_worst}
use Rattle.ovs_types.specs.NamedReading.{SpellsNamed}
use Rattle.ovs_query.specs.declared.error.QueryError.TheVariants as faults
use Rattle.ovs_query.specs.Faults.{rank}
use Rattle.ovs_query.specs.ConditionReading.{named}
use Rattle.ovs_query.specs.SelectReading.{read_where}
use Rattle.ovs_query.specs.SelectSpelling.{SpellsConditions}
use Rattle.ovs_query.specs.QueryFaults.{InNamed, InConditions}
use Rattle.ovs_query.proofs.SelectLaws.{conditions_found, conditions_only, named_found, named_only}
use Rattle.ovs_query.proofs.QueryFaulty.{conditions_worst, named_worst}
use Rattle.ovs_query.proofs.conditions.Conditions.read_named.Goals as goal

pub returns-clause-found : goal.returns-clause-found
returns-clause-found c =
    let columns = c.args.table.now.columns in
    let json = view c.args.value.now in
    let names = c.args.names.now in
    given_found faults.NoMemory (λ s. s) (SpellsConditions (SpellsNamed names) columns json) c.named_conditions.result (read_where (named names) columns (Some json))
    (conditions_found (named names) (SpellsNamed names) (named_found names) columns json) c.named_conditions.ensures.exact

pub returns-clause-only : goal.returns-clause-only
returns-clause-only c = λ x spelled.
    let columns = c.args.table.now.columns in
    let json = view c.args.value.now in
    let names = c.args.names.now in
    given_only faults.NoMemory (λ s. s) c.named_conditions.result (read_where (named names) columns (Some json)) x
    (conditions_only (named names) (SpellsNamed names) (named_only names) columns json x spelled) c.named_conditions.ensures.exact

pub returns-clause-worst : goal.returns-clause-worst
returns-clause-worst c = λ told.
    let columns = c.args.table.now.columns in
    let json = view c.args.value.now in
    let names = c.args.names.now in
    given_worst faults.NoMemory (λ s. s) rank (InConditions (InNamed names) columns json) c.named_conditions.result (read_where (named names) columns (Some json)) c.named_conditions.ensures.exact told
    (conditions_worst (named names) (InNamed names) (named_worst names) columns json)
