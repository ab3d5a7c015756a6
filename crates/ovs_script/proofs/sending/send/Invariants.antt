use Rattle.std.proofs.Common.{◌≡◌, ◌+◌, ◌≤◌, length, take}
use Rattle.std.specs.Io.KnownBytes.{Appends}
use Rattle.ovs_script.specs.Turns.{IsSpentByCalls}
use Rattle.ovs_script.proofs.sending.send.Given as goal

abbrev pub invariant-loop-at : goal.invariant-loop-at
invariant-loop-at g l = record {
  within : l.at ≤ length l.text;
  sent : Appends (g.W.Write.contents l.fn.writer.device) (g.W.Write.contents l.writer.device) (take l.at l.text);
  calls : IsSpentByCalls (l.fn.writer.calls + l.fn.turns) (l.writer.calls + l.turns);
  turns : l.turns ≤ l.fn.turns;
  failures : l.writer.failures ≡ l.fn.writer.failures;
}

abbrev pub decreases-loop-at : goal.decreases-loop-at
decreases-loop-at g l = l.turns
