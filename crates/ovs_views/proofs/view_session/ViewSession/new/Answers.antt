use Rattle.ovs_views.proofs.Next.{last_of_tables}
use Rattle.ovs_views.proofs.view_session.ViewSession.new.Goals as goal

pub invariant_of-result : goal.invariant_of-result
invariant_of-result g c =
    rw (c.new.ensures.value, c.again.ensures.same) (record {
      extends = tt;
      monitors = tt;
      steps = last_of_tables g.K.NodeName.schema c.args.last.now c.len.ensures.holds;
    })
