use Rattle.std.proofs.Common.{◌≡◌, Ok}
use Rattle.serde_json.specs.View.{view}
use Rattle.ovs_data.specs.declared.datum.Datum.{Datum}
use Rattle.ovs_json.proofs.Given.{given_found, given_only}
use Rattle.ovs_data.specs.declared.error.DatumError.TheVariants as faults
use Rattle.ovs_data.specs.Datum.{IsDatumOf}
use Rattle.ovs_data.specs.NamedReading.{read_named, read_named_atom, SpellsNamed, SpellsNamedAtom}
use Rattle.ovs_data.proofs.Spellings.{column_found, column_only, column_kept, named_atoms}
use Rattle.ovs_data.proofs.datum.Datum.read_named.Goals as goal

pub returns-clause-found : goal.returns-clause-found
returns-clause-found c =
    let names = c.args.names.now in
    let column = c.args.column.now in
    let json = view c.args.value.now in
    let found = column_found (read_named_atom names) (SpellsNamedAtom names) (named_atoms names) column json in
    given_found faults.NoMemory (λ d. d) (SpellsNamed names column json) c.read_named.result (read_named names column json) found c.read_named.ensures.exact

pub returns-clause-only : goal.returns-clause-only
returns-clause-only c = λ x spelled.
    let names = c.args.names.now in
    let column = c.args.column.now in
    let json = view c.args.value.now in
    let only = column_only (read_named_atom names) (SpellsNamedAtom names) (named_atoms names) column json x spelled in
    given_only faults.NoMemory (λ d. d) c.read_named.result (read_named names column json) x only c.read_named.ensures.exact

pub returns-clause-kept : goal.returns-clause-kept
returns-clause-kept c =
    let names = c.args.names.now in
    let column = c.args.column.now in
    let json = view c.args.value.now in
    let laws = named_atoms names in
    let kept : (x : Datum) → read_named names column json ≡ Ok x → IsDatumOf column x = λ x e. column_kept (read_named_atom names) (SpellsNamedAtom names) laws column json x (column_found (read_named_atom names) (SpellsNamedAtom names) laws column json x e) in
    given_found faults.NoMemory (λ d. d) (IsDatumOf column) c.read_named.result (read_named names column json) kept c.read_named.ensures.exact
