use Rattle.std.specs.List.{All}
use Rattle.ovs_links.specs.Sets.{IsOfTables}
use Rattle.ovs_stream_cases.proofs.case.read_links.Given as goal

abbrev pub invariant-loop-link : goal.invariant-loop-link
invariant-loop-link l = All (IsOfTables l.schema.description.tables) l.links.items
