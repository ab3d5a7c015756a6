use Rattle.ovs_data.specs.declared.datum.Datum.TheVariants.{Set}
use Rattle.ovs_data.proofs.Differences.{IsExchange-sets, exchange_of_only}
use Rattle.ovs_data.proofs.datum.atoms.Atoms.exchanged.Goals as goal

pub exchanged-requires : goal.exchanged-requires
exchanged-requires c = record { old = rw c.deref.ensures.value c.self.invariant; other = rw c.deref-2.ensures.value c.other.invariant }

pub invariant_of-result : goal.invariant_of-result
invariant_of-result c = c.in_ok-items.ensures.ascending

pub returns-clause-exchange : goal.returns-clause-exchange
returns-clause-exchange c =
    rw (← c.self.view_is, ← c.other.view_is) (IsExchange-sets _ _ _ (rw (c.deref.ensures.value, c.deref-2.ensures.value) at c.in_ok-items.ensures.exchange))

pub returns-clause-exact : goal.returns-clause-exact
returns-clause-exact c =
    let exchanged = returns-clause-exchange c in
    rw (← c.self.view_is, ← c.other.view_is) (exchange_of_only (Set _) (Set _) (Set _) tt c.self.invariant c.other.invariant (invariant_of-result c)
    (rw (← c.self.view_is, ← c.other.view_is) at exchanged))

pub returns-clause-ordered : goal.returns-clause-ordered
returns-clause-ordered c = invariant_of-result c
