use Rattle.ovs_service.proofs.Heard.{hears_at}
use Rattle.ovs_service.proofs.client.Client.hear.Goals as goal

pub returns-clause-heard : goal.returns-clause-heard
returns-clause-heard g c =
    hears_at g.K.NodeName.schema c.args.message c.args.self.now c.self.inside.session c.answer_at.new.session c.answer_at.new.view
    c.self.inside.token.session_id c.self.inside.token.calls _ _ _ _ c.self.view_is c.in_ok-turn.ensures.later c.in_ok-turn.ensures.lasts c.in_ok-turn.ensures.turn c.in_ok-turn.ensures.after
    c.make_room.ensures.same c.add_turn.ensures.added
