use Rattle.std.proofs.Common.{sym, subst}
use Rattle.std.specs.List.{AllByRecursion}
use Rattle.ovs_node.proofs.Ends.{IsUnsent, fresh_ends_are_unsent}
use Rattle.ovs_stream_cases.proofs.relay.named.Goals as goal

pub run-requires-clause-unsent : goal.run-requires-clause-unsent
run-requires-clause-unsent g c κs within =
    subst (AllByRecursion IsUnsent) (sym c.in_ok-parts.ensures.ends) (fresh_ends_are_unsent c.args.node.upstreams)
