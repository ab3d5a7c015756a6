use Rattle.std.proofs.Common.{rules}
use Rattle.ovs_views.specs.Published.{GoesOn}
use Rattle.ovs_views.proofs.Next.{session_shown}
use Rattle.ovs_views.proofs.view_session.ViewSession.take_message.Goals as goal

pub take_message-requires : goal.take_message-requires
take_message-requires g c =
    let schema = g.K.NodeName.schema in
    let goes : GoesOn schema c.self.inside.last c.args.shown.now = search rules in
    record { shown = rw c.folded.ensures.value (session_shown schema c.self.inside.last c.args.shown.now c.self.inside.session goes c.self.invariant) }
