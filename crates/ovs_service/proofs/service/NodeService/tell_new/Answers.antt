use Rattle.ovs_service.proofs.Runs.{told_new, has_all}
use Rattle.ovs_service.proofs.service.NodeService.tell_new.Goals as goal

pub returns-clause-told : goal.returns-clause-told
returns-clause-told g c =
    told_new g.K.NodeName.schema g.D.ServiceAuthority.replies g.D.ServiceAuthority.owes c.in_ok-is_all_told.is_all_told c.args.client.now c.pump.new.client c.collect-is_all.new.self
    c.flush.new.self c.args.out.now c.flush.new.out c.pump.new.self.view c.collect-is_all.new.view c.collect-is_all.ensures.view c.requires.settled
    c.in_ok-is_all_told.ensures.told c.in_ok-is_all_told.ensures.all c.collect-is_all.ensures.collected
    c.collect-is_all.ensures.none c.flush.ensures.settled c.flush.ensures.same

pub returns-clause-all : goal.returns-clause-all
returns-clause-all g c = λ e.
    has_all g.K.NodeName.schema g.D.ServiceAuthority.replies g.D.ServiceAuthority.owes c.collect-is_all.result c.in_ok-is_all_told.is_all_told c.args.client.now c.pump.new.client c.collect-is_all.new.self
    c.flush.new.self c.args.out.now c.flush.new.out c.pump.new.self.view c.collect-is_all.new.view c.collect-is_all.ensures.view c.requires.settled
    c.in_ok-is_all_told.ensures.told c.in_ok-is_all_told.ensures.all c.collect-is_all.ensures.collected
    c.collect-is_all.ensures.nothing c.flush.ensures.settled c.flush.ensures.same (c.progress_of.ensures.all cc)
