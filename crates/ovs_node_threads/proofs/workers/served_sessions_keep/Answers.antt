use Rattle.std.proofs.Common.{ap}
use Rattle.std.proofs.Math.Logic.{∥∥₁_elim, ∥∥₁_map, ∥∥₁_prop}
use Rattle.ovs_session.specs.Serving.{fresh}
use Rattle.ovs_service.proofs.Promise.{kept_by}
use Rattle.ovs_node_threads.proofs.Served.{all_kept, ends_closed, ends_bad}
use Rattle.ovs_node_threads.proofs.workers.served_sessions_keep.Goals as goal

pub returns : goal.returns
returns g c = record {
  kept =
      ∥∥₁_elim c.requires.told ∥∥₁_prop (λ all. all_kept _ _ (λ s ends. ∥∥₁_map s.slot.lawful (λ m.
      let session_id = m.begun.0 in
      let last = m.begun.1 in (
        session_id,
        last,
        kept_by g.K.NodeName.schema g.D.ServiceAuthority.replies g.D.ServiceAuthority.owes _ session_id last _ _ _ _ _ _ s.ended m.moved (ap fresh m.begun.2)
            (λ e. let closed = m.end.closed (ends_closed s.ended s.slot.session.ended ends e) in (closed.0, closed.1.0))
            (λ e. (m.end.bad (ends_bad s.ended s.slot.session.ended ends e)).0),
      ))) c.args.served.now all);
}
