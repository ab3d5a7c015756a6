use Rattle.std.proofs.Common.{◌≡◌}
use Rattle.ovs_links.specs.Store.{tables_of}
use Rattle.ovs_cases.proofs.stores.take_all.Given as goal

abbrev pub invariant-loop-parts : goal.invariant-loop-parts
invariant-loop-parts l = tables_of l.store ≡ tables_of l.fn.store
