use Rattle.std.proofs.Common.{◌≡◌, ◌∙◌, length, rules, sym, subst}
use Rattle.ovs_node_threads.specs.Reporting.{AreSent}
use Rattle.ovs_node_threads.proofs.Reports.{account_of, chain_in, of_feed, of_history}
use Rattle.ovs_node_threads.proofs.ending.report_of.Goals as goal

pub returns-clause-report : goal.returns-clause-report
returns-clause-report g c =
    let feed = c.fold_rest.new.node.intake.feed in
    let back : length feed.returned ≡ feed.ends = search rules in
    of_feed feed c.finish-report.result.feed c.finish-report.ensures.feed (record {
      all = back ∙ c.fold_rest.ensures.ends.0 ∙ c.in_ok-take_all_back.ensures.ends;
      drained = c.fold_rest.ensures.done.1;
      admitted = subst (λ s. ∥ AreSent g.F.Sender.sends s ∥₁) (sym c.fold_rest.ensures.ends.1) c.in_ok-take_all_back.ensures.sent;
      of = record {
        chain = chain_in c.finish-report.result.store c.head.ensures.store c.finish-report.ensures.store.1;
        settled_as = c.finish-report.ensures.settled;
        held = c.finish-report.ensures.held;
        whole = c.finish-report.ensures.whole;
        agree = c.finish-report.ensures.agree;
        history = of_history c.finish-report.result.store feed.returned c.finish-report.result.forks c.head.ensures.store c.finish-report.ensures.store.1 c.finish-report.ensures.held c.finish-report.ensures.agree;
      };
    })

pub returns-clause-account : goal.returns-clause-account
returns-clause-account g c =
    let r = c.finish-report.result in
    let e = c.finish-report.ensures in
    account_of c.fold_rest.new.node.intake r.feed r.store r.forks r.short r.dropped r.refused.items
    c.fold_rest.ensures.done.0.taken e.feed e.store.0 e.counts.0 e.counts.1 e.counts.2 e.counts.3 e.account
