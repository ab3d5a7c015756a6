use Rattle.std.proofs.Common.{length, ap, arith}
use Rattle.std.proofs.lemmas.Bool.{ltb-true}
use Rattle.ovs_service.proofs.Heard.{all_told_at}
use Rattle.ovs_service.proofs.client.Client.pump.Goals as goal

pub returns-clause-all : goal.returns-clause-all
returns-clause-all g c = λ less.
    let few = ltb-true c.len-is_all_told.result 256 less in
    all_told_at g.K.NodeName.schema c.self.inside.session.session c.pump_at.new.view c.pump_at.new.session c.in_ok-messages.ensures.after
    (omega (arith, few, c.len-is_all_told.ensures, ap length c.in_ok-messages.ensures.told))
