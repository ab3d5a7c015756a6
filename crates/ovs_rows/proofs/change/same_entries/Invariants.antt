use Rattle.std.proofs.Common.{◌≡◌, length}
use Rattle.ovs_rows.proofs.change.same_entries.Given as goal

-- the lists are equal exactly where what is left of them is
abbrev pub invariant-loop-one : goal.invariant-loop-one
invariant-loop-one l =
    let ones = l.one-iterator.a.rest.now in
    let others = l.one-iterator.b.rest.now in
    record {
      long : length ones ≡ length others;
      rest : ones ≡ others → l.left ≡ l.right;
      whole : l.left ≡ l.right → ones ≡ others;
    }
