use Rattle.ovs_server.proofs.exit_report.ExitReport.of.Goals as goal

pub invariant_of-result : goal.invariant_of-result
invariant_of-result g c =
    let r = c.args.report.now in
    record {
      of_node = ∣ record {
        sent = r.feed.returned;
        store = r.store;
        settled = r.settled;
        forks = r.forks;
        short = r.short;
        dropped = r.dropped;
        report = c.requires.report;
        lines = c.lines_of-text.ensures.text;
        whole = c.refused_none-is_whole.ensures.value;
      } ∣₁;
    }
