use Rattle.std.proofs.Common.{◌≡◌, ◌+◌, ◌≤◌}
use Rattle.std.specs.Io.KnownBytes.{Keeps}
use Rattle.ovs_script.specs.Turns.{IsSpentByCalls}
use Rattle.ovs_script.proofs.window.read_some.Given as goal

abbrev pub invariant-loop-reader : goal.invariant-loop-reader
invariant-loop-reader g l = record {
  bytes : Keeps (g.R.Read.remaining l.fn.reader.device) (g.R.Read.remaining l.reader.device);
  calls : IsSpentByCalls (l.fn.reader.calls + l.fn.turns) (l.reader.calls + l.turns);
  turns : l.turns ≤ l.fn.turns;
  failures : l.reader.failures ≡ l.fn.reader.failures;
}

abbrev pub decreases-loop-reader : goal.decreases-loop-reader
decreases-loop-reader g l = l.turns
