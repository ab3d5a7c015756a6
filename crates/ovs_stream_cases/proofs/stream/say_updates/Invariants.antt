use Rattle.std.proofs.Common.{List, ◌++◌, map, take, drop}
use Rattle.std.specs.List.{AllByRecursion}
use Rattle.ovs_wire.specs.declared.message.Message.{Message}
use Rattle.ovs_stream_cases.specs.Said.{update_notice, AreSaid, IsTold}
use Rattle.ovs_stream_cases.proofs.stream.say_updates.Given as goal

-- the updates so far are said; and if what is written of the links that are left reads as they, so does what is written of all
abbrev pub invariant-loop-link : goal.invariant-loop-link
invariant-loop-link l = record {
  more : (said : List Message) → AreSaid said l.fn.bytes.items → AreSaid (said ++ map (update_notice l.schema.description.tables) (take l.link-index l.links)) l.bytes.items;
  told : AllByRecursion (IsTold l.schema.description.tables) (drop l.link-index l.links) → AllByRecursion (IsTold l.schema.description.tables) l.links;
}
