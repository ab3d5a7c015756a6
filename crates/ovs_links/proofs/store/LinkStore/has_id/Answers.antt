use Rattle.std.proofs.Common.{subst}
use Rattle.ovs_links.specs.Sets.{Holds}
use Rattle.ovs_links.specs.Store.{Stored}
use Rattle.ovs_links.proofs.store.LinkStore.has_id.Goals as goal

pub returns-in-Some-clause-found : goal.returns-in-Some-clause-found
returns-in-Some-clause-found c =
    let found = c.in-Some.ensures.found in
    λ _. (c.in-Some._held.now, subst (λ (v : Stored). Holds v.links c.in-Some._held.now) c.self.view_is found.0, found.1)
