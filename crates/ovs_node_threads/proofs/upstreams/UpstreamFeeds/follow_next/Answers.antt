use Rattle.std.proofs.Common.{sym, subst, ◌∙◌}
use Rattle.ovs_links.specs.Absorbing.{folded_by}
use Rattle.ovs_upstream.specs.declared.up_session.UpSession.{UpSession}
use Rattle.ovs_node_threads.specs.Lines.{AdmitsIn}
use Rattle.ovs_node_threads.proofs.Admitted.{session_admits}
use Rattle.ovs_node_threads.proofs.upstreams.UpstreamFeeds.follow_next.Goals as goal

pub follow-back-requires-clause-lawful : goal.follow-back-requires-clause-lawful
follow-back-requires-clause-lawful g c =
    let admits = g.C.Connector.admits in
    let known = (folded_by g.K.NodeName.schema c.next_session.new.view).database in
    subst (λ (up : UpSession). AdmitsIn admits up (g.C.In.Read.remaining c.in-Some.connection.0)) (sym c.in-Ok.ensures.session)
    (session_admits admits c.resyncs.result known c.in-Ok.next.asked _ c.in-Some.ensures.lawful (λ is. c.in-Some.ensures.copies (sym c.resyncs.ensures.value ∙ is)))
