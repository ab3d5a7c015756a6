use Rattle.ovs_data.specs.declared.datum.pairs.Pair.{Pair}
use Rattle.ovs_data.specs.declared.datum.Datum.TheVariants.{Map}
use Rattle.ovs_data.specs.Atom.{atom_cmp}
use Rattle.ovs_data.proofs.Ascends.{IsAscending-by_key, by_key-IsAscending}
use Rattle.ovs_data.proofs.Differences.{IsExchange-maps, exchange_of_only}
use Rattle.ovs_data.proofs.datum.pairs.Pairs.exchanged.Goals as goal

pub exchanged-requires : goal.exchanged-requires
exchanged-requires c = record {
  old = rw c.deref.ensures.value (by_key-IsAscending atom_cmp (λ (p : Pair). p.key) _ c.self.invariant);
  other = rw c.deref-2.ensures.value (by_key-IsAscending atom_cmp (λ (p : Pair). p.key) _ c.other.invariant);
}

pub invariant_of-result : goal.invariant_of-result
invariant_of-result c = IsAscending-by_key atom_cmp (λ (p : Pair). p.key) _ c.in_ok-items.ensures.ascending

pub returns-clause-exchange : goal.returns-clause-exchange
returns-clause-exchange c =
    rw (← c.self.view_is, ← c.other.view_is) (IsExchange-maps _ _ _ (rw (c.deref.ensures.value, c.deref-2.ensures.value) at c.in_ok-items.ensures.exchange))

pub returns-clause-exact : goal.returns-clause-exact
returns-clause-exact c =
    let exchanged = returns-clause-exchange c in
    rw (← c.self.view_is, ← c.other.view_is) (exchange_of_only (Map _) (Map _) (Map _) tt c.self.invariant c.other.invariant (invariant_of-result c)
    (rw (← c.self.view_is, ← c.other.view_is) at exchanged))

pub returns-clause-ordered : goal.returns-clause-ordered
returns-clause-ordered c = invariant_of-result c
