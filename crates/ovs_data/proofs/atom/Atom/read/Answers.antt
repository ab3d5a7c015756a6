use Rattle.serde_json.specs.View.{view}
use Rattle.ovs_json.proofs.Given.{given_found, given_only}
use Rattle.ovs_data.specs.declared.error.DatumError.TheVariants as faults
use Rattle.ovs_data.specs.Reading.{read_atom}
use Rattle.ovs_data.specs.Spelling.{SpellsAtom}
use Rattle.ovs_data.proofs.Spellings.{atom_found, atom_only}
use Rattle.ovs_data.proofs.atom.Atom.read.Goals as goal

pub returns-clause-found : goal.returns-clause-found
returns-clause-found c =
    let json = view c.args.value.now in
    given_found faults.NoMemory (λ a. a) (SpellsAtom c.args.kind json) c.read_atom.result (read_atom c.args.kind json) (atom_found c.args.kind json) c.read_atom.ensures.exact

pub returns-clause-only : goal.returns-clause-only
returns-clause-only c = λ x spelled.
    let json = view c.args.value.now in
    given_only faults.NoMemory (λ a. a) c.read_atom.result (read_atom c.args.kind json) x (atom_only c.args.kind json x spelled) c.read_atom.ensures.exact
