use Rattle.serde_json.specs.View.{view}
use Rattle.ovs_json.proofs.Given.{given_found, given_only, given_fault}
use Rattle.ovs_data.specs.declared.error.DatumError.TheVariants as faults
use Rattle.ovs_data.specs.Datum.{IsDatumOf}
use Rattle.ovs_data.specs.Reading.{read_datum}
use Rattle.ovs_data.specs.Spelling.{Spells}
use Rattle.ovs_data.specs.declared.datum.Datum.{Datum}
use Rattle.ovs_data.proofs.Duplicates.{duplicate_exactly}
use Rattle.ovs_data.proofs.Spellings.{datum_found, datum_only, IsDatumOf-spelled}
use Rattle.ovs_data.proofs.datum.Datum.read.Goals as goal

pub returns-clause-found : goal.returns-clause-found
returns-clause-found c =
    let column = c.args.column.now in
    let json = view c.args.value.now in
    given_found faults.NoMemory (λ d. d) (Spells column json) c.read_datum.result (read_datum column json) (datum_found column json) c.read_datum.ensures.exact

pub returns-clause-only : goal.returns-clause-only
returns-clause-only c = λ x spelled.
    let column = c.args.column.now in
    let json = view c.args.value.now in
    given_only faults.NoMemory (λ d. d) c.read_datum.result (read_datum column json) x (datum_only column json x spelled) c.read_datum.ensures.exact

pub returns-clause-kept : goal.returns-clause-kept
returns-clause-kept c =
    let column = c.args.column.now in
    let json = view c.args.value.now in
    given_found faults.NoMemory (λ d. d) (IsDatumOf column) c.read_datum.result (read_datum column json) (λ x e. IsDatumOf-spelled column json x (datum_found column json x e)) c.read_datum.ensures.exact

pub returns-clause-duplicate : goal.returns-clause-duplicate
returns-clause-duplicate c = λ told.
    let column = c.args.column.now in
    let json = view c.args.value.now in
    let given = given_fault faults.NoMemory (λ (d : Datum). d) c.read_datum.result (read_datum column json) c.read_datum.ensures.exact told faults.Duplicate in
    let exact = duplicate_exactly column json in
    (λ h. exact.0 (given.0 h), λ h. given.1 (exact.1 h))
