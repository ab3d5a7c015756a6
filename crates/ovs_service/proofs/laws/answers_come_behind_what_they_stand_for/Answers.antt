use Rattle.ovs_service.proofs.Behind.{behind}
use Rattle.ovs_service.proofs.laws.answers_come_behind_what_they_stand_for.Goals as goal

pub returns : goal.returns
returns g c = record {
  behind = λ session_id before after held taken start now todo gives.
      behind g.K.NodeName.schema (λ held. g.D.ServiceAuthority.owes held session_id) before after held taken start now todo gives;
}
