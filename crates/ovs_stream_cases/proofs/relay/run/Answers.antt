use Rattle.std.proofs.Common.{subst}
use Rattle.std.specs.List.{AllByRecursion}
use Rattle.ovs_node.proofs.Ends.{IsUnsent}
use Rattle.ovs_stream_cases.proofs.Places.{last_of}
use Rattle.ovs_stream_cases.proofs.relay.run.Goals as goal

pub new-sender-requires : goal.new-sender-requires
new-sender-requires g c = record { unsent = last_of IsUnsent c.pop.new.self.items c.in-Some.end (subst (AllByRecursion IsUnsent) c.in-Some.ensures.items c.requires.unsent) }
