use Rattle.std.proofs.Common.{sym, subst}
use Rattle.std.specs.List.{AllByRecursion}
use Rattle.ovs_node.proofs.Ends.{IsUnsent, fresh_ends_are_unsent}
use Rattle.ovs_server.proofs.node.named.Goals as goal

pub run_source_node-requires-clause-unsent : goal.run_source_node-requires-clause-unsent
run_source_node-requires-clause-unsent g c κs within =
    subst (AllByRecursion IsUnsent) (sym c.in_ok-parts.ensures.ends) (fresh_ends_are_unsent c.args.fresh.upstreams)

pub run_relay_node-requires-clause-unsent : goal.run_relay_node-requires-clause-unsent
run_relay_node-requires-clause-unsent g c κs within =
    subst (AllByRecursion IsUnsent) (sym c.in_ok-parts.ensures.ends) (fresh_ends_are_unsent c.args.fresh.upstreams)
