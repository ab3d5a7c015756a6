use Rattle.std.proofs.Common.{◌≡◌, Some, sym, ap, ◌∙◌}
use Rattle.ovs_wire.specs.Reading.{message_of}
use Rattle.ovs_wire.proofs.Again.{message_again}
use Rattle.ovs_wire.proofs.message.Message.write_owned.Goals as goal

pub returns-clause-same : goal.returns-clause-same
returns-clause-same c =
    let same : Some c.in-Some.message ≡ Some c.args.self = sym c.in-Some.is ∙ c.message_of.ensures.value
    ∙ ap message_of c.in-Ok.ensures.value ∙ message_again c.args.self c.in-Ok.ensures.spelled in
    cc (same)
