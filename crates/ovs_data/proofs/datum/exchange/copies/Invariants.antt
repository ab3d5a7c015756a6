use Rattle.std.proofs.Common.{◌≡◌, take}
use Rattle.ovs_data.proofs.datum.exchange.copies.Given as goal

abbrev pub invariant-loop-entry : goal.invariant-loop-entry
invariant-loop-entry g l = l.out.items ≡ take l.entry-index l.entries
