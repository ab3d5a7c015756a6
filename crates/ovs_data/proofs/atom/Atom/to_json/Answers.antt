use Rattle.ovs_data.specs.Writing.{atom_json}
use Rattle.ovs_data.proofs.Writings.{has_float-atom, no_float}
use Rattle.ovs_data.proofs.atom.Atom.to_json.Goals as goal

pub returns-clause-no_float : goal.returns-clause-no_float
returns-clause-no_float c = no_float (atom_json c.args.self.now) c.atom_json.result (has_float-atom c.args.self.now) c.atom_json.ensures.value
