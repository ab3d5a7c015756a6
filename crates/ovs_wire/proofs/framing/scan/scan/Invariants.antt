use Rattle.ovs_wire.proofs.Spans.{Scans}
use Rattle.ovs_wire.proofs.framing.scan.scan.Given as goal

abbrev pub invariant-loop-i : goal.invariant-loop-i
invariant-loop-i l = Scans l.fn.most l.bytes l.fn.tail l.i l.found.items l.end l.start l.place
