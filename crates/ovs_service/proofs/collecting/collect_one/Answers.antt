use Rattle.std.proofs.Common.{Some, None, sym}
use Rattle.ovs_service.proofs.Settled.{append_nil, collects_one}
use Rattle.ovs_service.proofs.collecting.collect_one.Goals as goal

pub returns-in-Some-clause-collected : goal.returns-in-Some-clause-collected
returns-in-Some-clause-collected g c =
    collects_one (λ session_id. g.D.ServiceAuthority.owes c.args.is_held_back session_id c.args.session.now.last) c.args.is_held_back _ _ _ _ _ (Some c.in-Some.message)
    c.make_room.ensures.same c.add.ensures.items
    (rw c.in-Some.is at c.in_ok-message.ensures.collected) (rw c.in-Some.is at c.in_ok-message.ensures.given)

pub returns-in-None-clause-collected : goal.returns-in-None-clause-collected
returns-in-None-clause-collected g c =
    collects_one (λ session_id. g.D.ServiceAuthority.owes c.args.is_held_back session_id c.args.session.now.last) c.args.is_held_back _ _ _ _ _ None
    c.make_room.ensures.same (sym (append_nil c.make_room.new.pending.items)) (rw c.in-None.is at c.in_ok-message.ensures.collected) tt
