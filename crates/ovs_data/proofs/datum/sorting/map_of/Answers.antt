use Rattle.std.proofs.Common.{sym, refl}
use Rattle.std.specs.Ordering.{ordering_then}
use Rattle.ovs_data.specs.declared.datum.pairs.Pair.{Pair}
use Rattle.ovs_data.specs.Atom.{atom_cmp, atom_total}
use Rattle.ovs_data.proofs.InOrder.{ascending_from, found, repeated}
use Rattle.ovs_data.proofs.datum.sorting.map_of.Goals as goal

pub new-requires : goal.new-requires
new-requires c = record { ascending = ascending_from atom_cmp atom_total (λ (p : Pair). p.key) _ (rw c.deref.ensures.value at (sym c.if-ascends.ensures.value)) }

pub returns-then-ascends : goal.returns-then-ascends
returns-then-ascends c = record {
  value = rw c.new.ensures.all (found atom_cmp atom_total (λ (p : Pair). p.key) c.args.pairs.items c.sort_unstable.new.self.items
      c.sort_unstable.ensures.permutation (rw c.deref.ensures.value at (sym c.if-ascends.ensures.value)));
}

-- pairs are sorted by key and then by value
pub returns-else-ascends : goal.returns-else-ascends
returns-else-ascends c = record {
  value = repeated atom_cmp atom_total (λ (p : Pair). p.key) (λ x y. ordering_then (atom_cmp x.key y.key) (atom_cmp x.value y.value)) (λ x y e. rw e refl)
      c.args.pairs.items c.sort_unstable.new.self.items c.sort_unstable.ensures.permutation c.sort_unstable.ensures.sorted
      (rw c.deref.ensures.value at (sym c.if-ascends.ensures.value));
}
