use Rattle.std.proofs.Common.{sym, subst}
use Rattle.ovs_links.specs.Store.{Stored, IsChainOf}
use Rattle.ovs_cases.proofs.stores.prune.Goals as goal

pub prune-dropped-requires : goal.prune-dropped-requires
prune-dropped-requires c = record {
  settled = subst (λ (s : Stored). IsChainOf s s.folded) (sym c.in_ok-_settled.ensures.exact.1) c.settle.ensures.whole.longest;
}
