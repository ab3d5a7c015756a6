use Rattle.ovs_data.proofs.Mutations.{joined_is}
use Rattle.ovs_data.proofs.datum.exchange.joined.Goals as goal

pub returns-clause-value : goal.returns-clause-value
returns-clause-value g c = joined_is g.E.SortedEntry.order g.met.E.SortedEntry.total g.E.SortedEntry.is_same c.args.old.now c.args.other.now c.merged.result c.merged.ensures.ascending c.merged.ensures.exchange
