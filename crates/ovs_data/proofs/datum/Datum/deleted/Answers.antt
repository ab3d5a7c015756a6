use Rattle.ovs_data.proofs.Mutations.{deleted_stays}
use Rattle.ovs_data.proofs.datum.Datum.deleted.Goals as goal

pub returns-clause-kept : goal.returns-clause-kept
returns-clause-kept c = deleted_stays c.args.self.now c.args.other.now c.left_by.result c.left_by.ensures.exact
