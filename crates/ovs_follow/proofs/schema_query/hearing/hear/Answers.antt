use Rattle.std.proofs.Common.{◌≡◌, Err, ap}
use Rattle.ovs_session.specs.declared.ended.ServiceError.TheVariants.{BadInput}
use Rattle.ovs_follow.proofs.schema_query.hearing.hear.Goals as goal

pub returns-in-Err-clause-none : goal.returns-in-Err-clause-none
returns-in-Err-clause-none c = λ bad. c.in-Err.ensures.bad (let same : c.in-Err.refusal ≡ BadInput = cc in ap (λ r. Err r) same)
