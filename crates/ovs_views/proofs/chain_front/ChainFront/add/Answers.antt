use Rattle.std.proofs.Common.{List, length, ap, arith}
use Rattle.ovs_links.proofs.AbsorbingLemmas.{no_more}
use Rattle.ovs_views.proofs.chain_front.ChainFront.add.Goals as goal

pub overflow_add-self : goal.overflow_add-self
overflow_add-self g c =
    let few = no_more c.self.inside.front in
    let chain = c.self.invariant.1 in
    let seen = ap (λ (ss : List _). length ss) c.self.view_is in
    let room = c.requires.room in
    omega (arith, few, chain, seen, room)
