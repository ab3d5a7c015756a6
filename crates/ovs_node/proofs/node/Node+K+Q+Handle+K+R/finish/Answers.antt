use Rattle.std.proofs.Common.{◌≡◌, ◌∙◌, sym}
use Rattle.ovs_node.proofs.node.Node+K+Q+Handle+K+R.finish.Goals as goal

pub returns-clause-held : goal.returns-clause-held
returns-clause-held g c = rw c.close-feed.ensures.store c.close-feed.ensures.held

pub returns-clause-whole : goal.returns-clause-whole
returns-clause-whole g c =
    let e = c.close-feed.ensures in
    let n = e.counts in
    rw (e.store, n.0, n.1, n.2) e.whole

pub returns-clause-agree : goal.returns-clause-agree
returns-clause-agree g c =
    let e = c.close-feed.ensures in
    λ none. e.counts.0 ∙ e.agree none
