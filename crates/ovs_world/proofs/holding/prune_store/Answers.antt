use Rattle.std.proofs.Common.{◌≡◌, refl, sym, subst}
use Rattle.ovs_links.specs.Settling.{KeepsLinks}
use Rattle.ovs_links.specs.Store.{Stored, IsChainOf}
use Rattle.ovs_world.specs.Nodes.{DropsOld}
use Rattle.ovs_world.specs.declared.error.WorldError.TheVariants.{NoMemory}
use Rattle.ovs_world.proofs.Broken.{err_by}
use Rattle.ovs_world.proofs.Held.{node_settled}
use Rattle.ovs_world.proofs.Pruned.{node_dropped, grows_dropped}
use Rattle.ovs_world.proofs.holding.prune_store.Goals as goal

pub prune-dropped-requires : goal.prune-dropped-requires
prune-dropped-requires c = record { settled = subst (λ (x : Stored). IsChainOf x x.folded) (sym c.in_ok-settle.ensures.exact.1) c.settle.ensures.whole.longest }

pub returns-clause-drops : goal.returns-clause-drops
returns-clause-drops c =
    let p = c.prune-dropped.ensures in
    subst (λ (x : Stored). DropsOld x c.prune-dropped.result c.prune-dropped.new.self) c.in_ok-settle.ensures.exact.1 (record { pruned = p.pruned; kept = p.kept; count = p.count })

pub returns-clause-node : goal.returns-clause-node
returns-clause-node c source node =
    let p = c.prune-dropped.ensures in
    node_dropped source c.args.store.now c.settle.new.self c.prune-dropped.new.self c.prune-dropped.result c.in_ok-settle.ensures.exact.1 (record { pruned = p.pruned; kept = p.kept; count = p.count }) c.head.ensures.store node

pub returns-in_err-settle-clause-node : goal.returns-in_err-settle-clause-node
returns-in_err-settle-clause-node c source node = node_settled source c.args.store.now c.settle.new.self node.schema node.within c.settle.ensures.links c.settle.ensures.store

pub returns-clause-grows : goal.returns-clause-grows
returns-clause-grows c =
    let p = c.prune-dropped.ensures in
    grows_dropped c.args.store.now c.settle.new.self c.prune-dropped.new.self c.prune-dropped.result c.settle.ensures.links (record { pruned = p.pruned; kept = p.kept; count = p.count })

pub returns-in_err-settle-clause-memory : goal.returns-in_err-settle-clause-memory
returns-in_err-settle-clause-memory c =
    err_by c.from_residual.result NoMemory (λ e. (e ≡ NoMemory) × KeepsLinks c.args.store.now c.settle.new.self) c.from_residual.ensures.1 (refl, c.settle.ensures.links)
