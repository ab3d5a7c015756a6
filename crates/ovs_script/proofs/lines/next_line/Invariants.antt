use Rattle.std.proofs.Common.{◌+◌, ◌*◌, ◌≤◌, ◌≡◌, length}
use Rattle.std.specs.Io.KnownBytes.{prepend_known}
use Rattle.ovs_script.specs.Lines.{most_read}
use Rattle.ovs_script.specs.Turns.{IsSpentByCalls}
use Rattle.ovs_script.proofs.Taking.{PartTaken}
use Rattle.ovs_script.proofs.lines.next_line.Given as goal

abbrev pub invariant-loop-window : goal.invariant-loop-window
invariant-loop-window g l =
    let remaining = g.R.Read.remaining in
    record {
      part : PartTaken (prepend_known l.fn.window (remaining l.fn.reader.device)) (prepend_known l.window (remaining l.reader.device)) l.line;
      calls : IsSpentByCalls (l.fn.reader.calls + l.fn.turns) (l.reader.calls + l.turns);
      failures : l.reader.failures ≡ l.fn.reader.failures;
      paid : l.turns * most_read + length l.window ≤ l.fn.turns * most_read + length l.fn.window;
    }

abbrev pub decreases-loop-window : goal.decreases-loop-window
decreases-loop-window g l = l.turns
