use Rattle.ovs_recorded_source.proofs.Sending as parts
use Rattle.ovs_recorded_source.proofs.crossing.source_desk_sends.Goals as goal

pub returns : goal.returns
returns c = parts.source_desk_sends c.source_sends.ensures c.lock_table_sends.ensures c.fresh_rows_sends.ensures c.link_sends.ensures
