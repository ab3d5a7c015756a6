use Rattle.std.proofs.Common.{◌≡◌, ◌+◌, ◌*◌, ◌≤◌, length, IsTrue}
use Rattle.std.specs.Io.KnownBytes.{prepend_known}
use Rattle.ovs_script.specs.Lines.{most_read}
use Rattle.ovs_script.specs.Turns.{IsSpentByCalls}
use Rattle.ovs_script.proofs.Way.{Progress}
use Rattle.ovs_script.proofs.run.run_lines.Given as goal

abbrev pub invariant-loop-number : goal.invariant-loop-number
invariant-loop-number g l =
    let remaining = g.R.Read.remaining in
    let contents = g.W.Write.contents in
    record {
      progress : Progress g.S.Script.rules l.fn.script (remaining l.fn.reader.device) (contents l.fn.writer.device) (contents l.writer.device)
          l.fn.pending l.pending l.script l.number (prepend_known l.window (remaining l.reader.device));
      calls : IsSpentByCalls ((l.fn.reader.calls + l.fn.writer.calls) + l.fn.turns) ((l.reader.calls + l.writer.calls) + l.turns);
      read_failures : l.reader.failures ≡ l.fn.reader.failures;
      write_failures : l.writer.failures ≡ l.fn.writer.failures;
      unread : IsTrue (g.S.Script.rules.is_over l.fn.script) → (l.script ≡ l.fn.script) × (l.reader ≡ l.fn.reader);
      paid : l.number + (l.turns * most_read + length l.window) ≤ l.fn.turns * most_read;
    }
