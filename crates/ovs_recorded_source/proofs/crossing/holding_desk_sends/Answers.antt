use Rattle.ovs_recorded_source.proofs.Sending as parts
use Rattle.ovs_recorded_source.proofs.crossing.holding_desk_sends.Goals as goal

pub returns : goal.returns
returns c = parts.holding_desk_sends c.source_desk_sends.ensures c.waiting_replies_send.ensures
