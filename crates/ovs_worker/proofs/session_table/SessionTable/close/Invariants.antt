use Rattle.std.proofs.Common.{◌≡◌, ◌++◌}
use Rattle.std.specs.Prelude.{All}
use Rattle.slab.specs.Slab.{entries}
use Rattle.ovs_worker.proofs.session_table.SessionTable.close.Given as goal

-- of the sessions that were ended nothing is kept
abbrev pub invariant-loop-slot : goal.invariant-loop-slot
invariant-loop-slot g l =
    (l.yielded ++ l.slot-iterator ≡ entries l.fn.self.slots) × All (λ e. g.V.SessionHost.is_silent l.host e.1.session.state) l.yielded
