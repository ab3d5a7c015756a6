use Rattle.ovs_world.proofs.Answering.{schema_answered, schema_heard, monitor_answered}
use Rattle.ovs_world.proofs.Telling.{told_links}
use Rattle.ovs_world.proofs.laws.relay_laws.Goals as goal

pub returns : goal.returns
returns c = record { schema = schema_answered; asks = schema_heard; monitor = monitor_answered; told = told_links }
