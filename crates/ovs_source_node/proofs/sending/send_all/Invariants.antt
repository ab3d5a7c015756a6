use Rattle.std.proofs.Common.{◌≡◌}
use Rattle.ovs_source_node.specs.Sent.{HasSent}
use Rattle.ovs_source_node.proofs.sending.send_all.Given as goal

-- what was sent was taken out, and the desk may give it
abbrev pub invariant-loop : goal.invariant-loop
invariant-loop g l =
    HasSent (g.S.LinkSink.sent l.fn.sink) (g.S.LinkSink.sent l.sink) l.fn.counts.messages l.counts.messages
    × (g.S.LinkSink.sent l.sink ≡ g.L.SharedSource.links l.taken) × g.L.SharedSource.gives (g.L.SharedSource.links l.taken)
