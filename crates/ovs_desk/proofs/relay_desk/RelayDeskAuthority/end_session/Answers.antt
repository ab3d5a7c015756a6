use Rattle.ovs_desk.proofs.Owed.{ended_silent, ended_others}
use Rattle.ovs_desk.proofs.Owners.{owns_none}
use Rattle.ovs_desk.proofs.relay_desk.RelayDeskAuthority.end_session.Goals as goal

pub returns-clause-silent : goal.returns-clause-silent
returns-clause-silent c = ended_silent c.args.session c.args.self.now c.drop_session.new.self c.drop_session.ensures.after

pub returns-clause-owns_none : goal.returns-clause-owns_none
returns-clause-owns_none c = owns_none c.args.session c.drop_session.new.self.locks.locks c.drop_session.ensures.after.gone.stands

pub returns-clause-others : goal.returns-clause-others
returns-clause-others c = ended_others c.args.session c.args.self.now c.drop_session.new.self c.drop_session.ensures.after
