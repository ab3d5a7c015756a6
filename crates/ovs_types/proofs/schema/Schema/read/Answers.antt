use Rattle.serde_json.specs.View.{view}
use Rattle.ovs_json.proofs.Given.{given_found, given_only, given_worst}
use Rattle.ovs_types.specs.declared.schema.error.SchemaError.TheVariants as faults
use Rattle.ovs_types.specs.SchemaReading.{read_description}
use Rattle.ovs_types.specs.SchemaSpelling.{Spells}
use Rattle.ovs_types.specs.SchemaFaults.{rank, HasFault}
use Rattle.ovs_types.proofs.SchemaFaulty.{schema_worst}
use Rattle.ovs_types.proofs.SchemaLaws.{found, only}
use Rattle.ovs_types.proofs.schema.Schema.read.Goals as goal

pub returns-clause-found : goal.returns-clause-found
returns-clause-found c =
    let json = view c.args.value.now in
    given_found faults.NoMemory (λ s. s.description) (Spells json) c.schema_of.result (read_description json) (found json) c.schema_of.ensures.exact

pub returns-clause-only : goal.returns-clause-only
returns-clause-only c = λ x spelled.
    let json = view c.args.value.now in
    given_only faults.NoMemory (λ s. s.description) c.schema_of.result (read_description json) x (only json x spelled) c.schema_of.ensures.exact

pub returns-clause-worst : goal.returns-clause-worst
returns-clause-worst c = λ told.
    let json = view c.args.value.now in
    given_worst faults.NoMemory (λ s. s.description) rank (HasFault json) c.schema_of.result (read_description json) c.schema_of.ensures.exact told (schema_worst json)
