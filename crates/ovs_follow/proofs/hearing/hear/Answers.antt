use Rattle.std.proofs.Common.{◌≡◌, Err, ap, inl}
use Rattle.ovs_session.specs.declared.ended.ServiceError.TheVariants.{BadInput}
use Rattle.ovs_follow.proofs.hearing.hear.Goals as goal

pub returns-in-Err-clause-bad : goal.returns-in-Err-clause-bad
returns-in-Err-clause-bad c = λ bad. inl (c.in-Err.ensures.bad (let same : c.in-Err.refusal ≡ BadInput = cc in ap (λ r. Err r) same))
