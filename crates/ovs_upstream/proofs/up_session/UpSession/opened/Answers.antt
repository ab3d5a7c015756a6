use Rattle.std.proofs.Common.{subst}
use Rattle.ovs_upstream.specs.Requests.{CanBeAsked}
use Rattle.ovs_upstream.specs.Session.{UpSessionValue}
use Rattle.ovs_upstream.proofs.up_session.UpSession.opened.Goals as goal

pub returns-clause-asked : goal.returns-clause-asked
returns-clause-asked c = subst (λ (s : UpSessionValue). CanBeAsked s.schema s.asked) c.self.view_is c.in_ok-monitor_request.ensures.asked
