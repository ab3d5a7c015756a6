use Rattle.std.proofs.Common.{ℕ, subst}
use Rattle.std.specs.Prelude.{IfOk}
use Rattle.ovs_node_threads.specs.Reporting.{IsReport}
use Rattle.ovs_node_threads.proofs.running.run_node.Goals as goal

pub returns-clause-report : goal.returns-clause-report
returns-clause-report g c =
    subst (λ (ends : ℕ). IfOk c.report_of.result (λ r. IsReport g.F.Sender.sends ends r.feed r.store r.settled r.forks r.short r.dropped)) c.in_ok-backs.ensures.ends.0 c.report_of.ensures.report
