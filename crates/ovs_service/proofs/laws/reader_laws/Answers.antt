use Rattle.std.proofs.Common.{refl}
use Rattle.ovs_session.specs.Serving.{fresh}
use Rattle.ovs_service.specs.Client.{new_client}
use Rattle.ovs_service.proofs.Promise.{kept_by}
use Rattle.ovs_service.proofs.laws.reader_laws.Goals as goal

pub returns : goal.returns
returns g c = record {
  kept = λ limit session_id last i j o p now ended moved closed bad.
      kept_by g.K.NodeName.schema g.D.ServiceAuthority.replies g.D.ServiceAuthority.owes limit session_id last i j o p (fresh (new_client session_id last)) now ended moved refl closed bad;
}
