use Rattle.std.proofs.Common.{◌≡◌, ◌≤◌, []}
use Rattle.std.specs.Prelude.{vec_len, vec_capacity}
use Rattle.ovs_node.specs.Ledger.{fresh_ends}
use Rattle.ovs_node.proofs.open_node.ends_of.Given as goal

abbrev pub invariant-loop-number : goal.invariant-loop-number
invariant-loop-number g l =
    (l.ends.items ≡ fresh_ends l.number) × (vec_len l.ends ≡ l.number) × (l.fn.count ≤ vec_capacity l.ends)
    × (l.feed ≡ record { taken = []; ends = l.number; returned = [] })
