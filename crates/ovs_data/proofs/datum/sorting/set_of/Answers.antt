use Rattle.std.proofs.Common.{sym}
use Rattle.ovs_data.specs.declared.atom.Atom.{Atom}
use Rattle.ovs_data.specs.Atom.{atom_cmp, atom_total}
use Rattle.ovs_data.proofs.InOrder.{ascending_from, found, repeated}
use Rattle.ovs_data.proofs.datum.sorting.set_of.Goals as goal

pub new-requires : goal.new-requires
new-requires c = record { ascending = ascending_from atom_cmp atom_total (λ (x : Atom). x) _ (rw c.deref.ensures.value at (sym c.if-ascends.ensures.value)) }

pub returns-then-ascends : goal.returns-then-ascends
returns-then-ascends c = record {
  value = rw c.new.ensures.all (found atom_cmp atom_total (λ (x : Atom). x) c.args.atoms.items c.sort_unstable.new.self.items
      c.sort_unstable.ensures.permutation (rw c.deref.ensures.value at (sym c.if-ascends.ensures.value)));
}

pub returns-else-ascends : goal.returns-else-ascends
returns-else-ascends c = record {
  value = repeated atom_cmp atom_total (λ (x : Atom). x) atom_cmp (λ x y e. e) c.args.atoms.items c.sort_unstable.new.self.items
      c.sort_unstable.ensures.permutation c.sort_unstable.ensures.sorted (rw c.deref.ensures.value at (sym c.if-ascends.ensures.value));
}
