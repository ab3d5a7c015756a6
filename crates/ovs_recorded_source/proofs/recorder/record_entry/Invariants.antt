use Rattle.std.proofs.Common.{◌≡◌}
use Rattle.ovs_recorded_source.proofs.recorder.record_entry.Given as goal

-- nothing was added yet
abbrev pub invariant-loop : goal.invariant-loop
invariant-loop g l = (l.front ≡ l.fn.front) × (l.known ≡ l.fn.known)
