use Rattle.serde_json.specs.View.{view}
use Rattle.ovs_wire.proofs.Written.{message_written}
use Rattle.ovs_wire.proofs.message.writing.text_of.Goals as goal

pub returns-clause-written : goal.returns-clause-written
returns-clause-written c m same spells =
    let text = c.in_ok-to_vec.ensures in
    message_written m (view c.args.value.now) c.in_ok-to_vec.field-0.items same spells text.utf8 text.compact text.order
    text.reads_back
