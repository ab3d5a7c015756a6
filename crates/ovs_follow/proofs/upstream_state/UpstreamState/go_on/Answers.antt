use Rattle.std.proofs.Common.{subst}
use Rattle.ovs_links.specs.Sets.{IsOfTables}
use Rattle.ovs_upstream.specs.declared.up_session.UpSession.{UpSession}
use Rattle.ovs_follow.proofs.upstream_state.UpstreamState.go_on.Goals as goal

pub invariant_of-self : goal.invariant_of-self
invariant_of-self g c = λ l of. c.self.invariant l (subst (λ (u : UpSession). IsOfTables u.schema.description.tables l) c.go_on.ensures.value of)
