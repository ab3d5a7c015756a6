use Rattle.std.proofs.Common.{◌≡◌}
use Rattle.ovs_service.specs.Deeds.{Collects}
use Rattle.ovs_service.proofs.collecting.collect.Given as goal

abbrev pub invariant-loop-collected : goal.invariant-loop-collected
invariant-loop-collected g l =
    Collects (λ session_id. g.D.ServiceAuthority.owes l.is_held_back session_id l.session.last) l.is_held_back l.initial.pending.items l.initial.token l.pending.items l.token
    × (l.view ≡ l.initial.view) × (g.D.ServiceAuthority.ended l.desk ≡ g.D.ServiceAuthority.ended l.initial.desk)
