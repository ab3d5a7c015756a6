use Rattle.std.proofs.Common.{◌≡◌, [], false}
use Rattle.ovs_service.specs.Deeds.{tasks, Does}
use Rattle.ovs_service.proofs.flushing.flush.Given as goal

abbrev pub invariant-loop-step : goal.invariant-loop-step
invariant-loop-step g l =
    Does g.D.ServiceAuthority.replies (tasks l.initial.pending.items) l.initial.token l.initial.out (tasks l.pending.items) l.token l.out
    × (l.is_changed ≡ false → (l.pending.items ≡ l.initial.pending.items) × (l.out ≡ l.initial.out) × (l.token ≡ l.initial.token))
    × (l.initial.pending.items ≡ [] → (l.pending.items ≡ []) × (l.is_changed ≡ false))
    × (g.D.ServiceAuthority.ended l.desk ≡ g.D.ServiceAuthority.ended l.initial.desk)
