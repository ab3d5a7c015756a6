use Rattle.std.proofs.Common.{sym, subst}
use Rattle.std.specs.List.{All}
use Rattle.ovs_links.specs.Sets.{IsOfTables}
use Rattle.ovs_stream_cases.proofs.relay.relayed.Goals as goal

pub are_of_history-requires : goal.are_of_history-requires
are_of_history-requires g c = record { tables = subst (All (IsOfTables c.args.schema.now.description.tables)) (sym c.as_slice.ensures.value) c.requires.tables }
