use Rattle.std.proofs.Common.{◌≡◌, Err, ap}
use Rattle.ovs_session.specs.declared.ended.ServiceError.TheVariants.{BadInput}
use Rattle.ovs_follow.proofs.hearing.fault_of_text.Goals as goal

pub returns-in-Ok : goal.returns-in-Ok
returns-in-Ok c = record { fault = c.fault_of_message.ensures.fault c.args.text.now c.in-Ok.ensures.says }

pub returns-in-Err-BadInput : goal.returns-in-Err-BadInput
returns-in-Err-BadInput c =
    record { fault = c.in-Err-BadInput.ensures.bad (let same : c.in-Err-BadInput.field-0 ≡ BadInput = cc in ap (λ r. Err r) same) }
