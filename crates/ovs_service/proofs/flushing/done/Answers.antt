use Rattle.ovs_service.proofs.Settled.{done_saying, done_telling, forward_ask}
use Rattle.ovs_service.proofs.flushing.done.Goals as goal

pub returns-in-Say-clause-done : goal.returns-in-Say-clause-done
returns-in-Say-clause-done g c =
    done_saying g.D.ServiceAuthority.replies c.args.due c.in-Say.message _ _ _ _ c.in-Say.is c.done_saying.ensures.done

pub returns-in-Tell-clause-done : goal.returns-in-Tell-clause-done
returns-in-Tell-clause-done g c =
    done_telling g.D.ServiceAuthority.replies c.args.due c.in-Tell.several _ _ _ _ c.in-Tell.is c.done_telling.ensures.done

pub returns-in-Put-clause-done : goal.returns-in-Put-clause-done
returns-in-Put-clause-done g c =
    forward_ask g.D.ServiceAuthority.replies c.args.due c.in-Put.ask _ _ _ _ c.in-Put.is c.forward_ask.ensures.done
