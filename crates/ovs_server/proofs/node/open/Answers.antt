use Rattle.std.proofs.Common.{◌∙◌}
use Rattle.ovs_server.proofs.node.open.Goals as goal

pub named-requires-clause-one : goal.named-requires-clause-one
named-requires-clause-one g c κs within = λ source is. c.in_ok-fresh.ensures.counts.0 ∙ c.ends-ends.ensures.of_source source is
