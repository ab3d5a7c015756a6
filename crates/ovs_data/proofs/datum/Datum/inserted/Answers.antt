use Rattle.ovs_data.proofs.Mutations.{union_from, inserted_stays}
use Rattle.ovs_data.proofs.datum.Datum.inserted.Goals as goal

pub returns-clause-union : goal.returns-clause-union
returns-clause-union c = union_from c.args.self.now c.args.other.now c.joined.result c.requires.alike c.joined.ensures.exact

pub returns-clause-kept : goal.returns-clause-kept
returns-clause-kept c = inserted_stays c.args.self.now c.args.other.now c.joined.result c.requires.alike c.joined.ensures.exact
