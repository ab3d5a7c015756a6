use Rattle.std.proofs.Common.{◌≡◌, ◌<◌, ℕ, refl, sym, ap, arith}
use Rattle.std.proofs.lemmas.Result.{on_ok_weaker}
use Rattle.ovs_world.specs.Nodes.{node_at}
use Rattle.ovs_world.proofs.Broken.{if_err_weaker}
use Rattle.ovs_world.proofs.Merged.{low_is, high_is, low_after, first_is, other_is, high_after, both_nodes, nodes_merged, nodes_left, tier_merged, grow_merged}
use Rattle.ovs_world.proofs.Opened.{relay_at}
use Rattle.ovs_world.proofs.holding.merge_nodes.Goals as goal

some : (n : ℕ) → (n ≡ 0 → ⊥) → 0 < n
some n other = omega (arith, other)

pub merge_stores-requires : goal.merge_stores-requires
merge_stores-requires c = record { nodes = both_nodes c.args.source.now c.args.relays.now c.args.into c.args.from c.requires.places c.requires.tier _ _ (relay_at c.args.source.now c.args.relays.now c.args.into c.index-relays-into.result c.requires.places.0 c.requires.places.1) (ap (λ n. node_at c.args.source.now c.args.relays.now n) (sym c.if-from-eq0.true)) }

pub returns-then-from-eq0-clause-merged : goal.returns-then-from-eq0-clause-merged
returns-then-from-eq0-clause-merged c = on_ok_weaker c.merge_stores.result (λ m. nodes_merged c.args.source.now c.args.relays.now c.args.into c.args.from c.requires.places c.requires.tier _ _ (relay_at c.args.source.now c.args.relays.now c.args.into c.index-relays-into.result c.requires.places.0 c.requires.places.1) (ap (λ n. node_at c.args.source.now c.args.relays.now n) (sym c.if-from-eq0.true)) c.merge_stores.new.store _ (refl) m) c.merge_stores.ensures.merged

pub returns-then-from-eq0-clause-memory : goal.returns-then-from-eq0-clause-memory
returns-then-from-eq0-clause-memory c = if_err_weaker c.merge_stores.result (λ e m. (m.0, nodes_left c.args.source.now c.args.relays.now c.args.into c.args.from c.requires.places c.requires.tier _ _ (relay_at c.args.source.now c.args.relays.now c.args.into c.index-relays-into.result c.requires.places.0 c.requires.places.1) (ap (λ n. node_at c.args.source.now c.args.relays.now n) (sym c.if-from-eq0.true)) c.merge_stores.new.store _ (refl) m.1)) c.merge_stores.ensures.memory

pub returns-then-from-eq0-clause-tier : goal.returns-then-from-eq0-clause-tier
returns-then-from-eq0-clause-tier c = tier_merged c.args.source.now c.args.relays.now c.args.into c.args.from c.requires.places c.requires.tier _ _ (relay_at c.args.source.now c.args.relays.now c.args.into c.index-relays-into.result c.requires.places.0 c.requires.places.1) (ap (λ n. node_at c.args.source.now c.args.relays.now n) (sym c.if-from-eq0.true)) c.merge_stores.new.store _ (refl) c.merge_stores.ensures.node

pub returns-then-from-eq0-clause-grow : goal.returns-then-from-eq0-clause-grow
returns-then-from-eq0-clause-grow c = grow_merged c.args.source.now c.args.relays.now c.args.into c.args.from c.requires.places c.requires.tier _ _ (relay_at c.args.source.now c.args.relays.now c.args.into c.index-relays-into.result c.requires.places.0 c.requires.places.1) (ap (λ n. node_at c.args.source.now c.args.relays.now n) (sym c.if-from-eq0.true)) c.merge_stores.new.store _ (refl) c.merge_stores.ensures.extends

pub merge_stores-requires-then-into-from : goal.merge_stores-requires-then-into-from
merge_stores-requires-then-into-from c = record { nodes = both_nodes c.args.source.now c.args.relays.now c.args.into c.args.from c.requires.places c.requires.tier _ _ (low_is c.args.source.now c.args.relays.now c.args.into c.args.from c.requires.places c.split_at_mut-low.result.0.now c.index-low-into.result c.if-into-from.true c.split_at_mut-low.ensures.front) (high_is c.args.source.now c.args.relays.now c.args.into c.args.from c.requires.places c.split_at_mut-low.result.1.now c.index-high-0.result c.if-into-from.true c.split_at_mut-low.ensures.back) }

pub returns-then-into-from-clause-merged : goal.returns-then-into-from-clause-merged
returns-then-into-from-clause-merged c = on_ok_weaker c.merge_stores-then-into-from.result (λ m. nodes_merged c.args.source.now c.args.relays.now c.args.into c.args.from c.requires.places c.requires.tier _ _ (low_is c.args.source.now c.args.relays.now c.args.into c.args.from c.requires.places c.split_at_mut-low.result.0.now c.index-low-into.result c.if-into-from.true c.split_at_mut-low.ensures.front) (high_is c.args.source.now c.args.relays.now c.args.into c.args.from c.requires.places c.split_at_mut-low.result.1.now c.index-high-0.result c.if-into-from.true c.split_at_mut-low.ensures.back) c.merge_stores-then-into-from.new.store _ (low_after c.args.source.now c.args.relays.now c.args.into c.args.from c.requires.places c.split_at_mut-low.result.0.now c.split_at_mut-low.result.1.now c.merge_stores-then-into-from.new.store c.if-into-from.true c.split_at_mut-low.ensures.front c.split_at_mut-low.ensures.back) m) c.merge_stores-then-into-from.ensures.merged

pub returns-then-into-from-clause-memory : goal.returns-then-into-from-clause-memory
returns-then-into-from-clause-memory c = if_err_weaker c.merge_stores-then-into-from.result (λ e m. (m.0, nodes_left c.args.source.now c.args.relays.now c.args.into c.args.from c.requires.places c.requires.tier _ _ (low_is c.args.source.now c.args.relays.now c.args.into c.args.from c.requires.places c.split_at_mut-low.result.0.now c.index-low-into.result c.if-into-from.true c.split_at_mut-low.ensures.front) (high_is c.args.source.now c.args.relays.now c.args.into c.args.from c.requires.places c.split_at_mut-low.result.1.now c.index-high-0.result c.if-into-from.true c.split_at_mut-low.ensures.back) c.merge_stores-then-into-from.new.store _ (low_after c.args.source.now c.args.relays.now c.args.into c.args.from c.requires.places c.split_at_mut-low.result.0.now c.split_at_mut-low.result.1.now c.merge_stores-then-into-from.new.store c.if-into-from.true c.split_at_mut-low.ensures.front c.split_at_mut-low.ensures.back) m.1)) c.merge_stores-then-into-from.ensures.memory

pub returns-then-into-from-clause-tier : goal.returns-then-into-from-clause-tier
returns-then-into-from-clause-tier c = tier_merged c.args.source.now c.args.relays.now c.args.into c.args.from c.requires.places c.requires.tier _ _ (low_is c.args.source.now c.args.relays.now c.args.into c.args.from c.requires.places c.split_at_mut-low.result.0.now c.index-low-into.result c.if-into-from.true c.split_at_mut-low.ensures.front) (high_is c.args.source.now c.args.relays.now c.args.into c.args.from c.requires.places c.split_at_mut-low.result.1.now c.index-high-0.result c.if-into-from.true c.split_at_mut-low.ensures.back) c.merge_stores-then-into-from.new.store _ (low_after c.args.source.now c.args.relays.now c.args.into c.args.from c.requires.places c.split_at_mut-low.result.0.now c.split_at_mut-low.result.1.now c.merge_stores-then-into-from.new.store c.if-into-from.true c.split_at_mut-low.ensures.front c.split_at_mut-low.ensures.back) c.merge_stores-then-into-from.ensures.node

pub returns-then-into-from-clause-grow : goal.returns-then-into-from-clause-grow
returns-then-into-from-clause-grow c = grow_merged c.args.source.now c.args.relays.now c.args.into c.args.from c.requires.places c.requires.tier _ _ (low_is c.args.source.now c.args.relays.now c.args.into c.args.from c.requires.places c.split_at_mut-low.result.0.now c.index-low-into.result c.if-into-from.true c.split_at_mut-low.ensures.front) (high_is c.args.source.now c.args.relays.now c.args.into c.args.from c.requires.places c.split_at_mut-low.result.1.now c.index-high-0.result c.if-into-from.true c.split_at_mut-low.ensures.back) c.merge_stores-then-into-from.new.store _ (low_after c.args.source.now c.args.relays.now c.args.into c.args.from c.requires.places c.split_at_mut-low.result.0.now c.split_at_mut-low.result.1.now c.merge_stores-then-into-from.new.store c.if-into-from.true c.split_at_mut-low.ensures.front c.split_at_mut-low.ensures.back) c.merge_stores-then-into-from.ensures.extends

pub merge_stores-requires-else-into-from : goal.merge_stores-requires-else-into-from
merge_stores-requires-else-into-from c = record { nodes = both_nodes c.args.source.now c.args.relays.now c.args.into c.args.from c.requires.places c.requires.tier _ _ (first_is c.args.source.now c.args.relays.now c.args.into c.args.from c.requires.places c.split_at_mut-low-else-into-from.result.1.now c.index-high-0-else-into-from.result c.split_at_mut-low-else-into-from.ensures.back) (other_is c.args.source.now c.args.relays.now c.args.into c.args.from c.requires.places c.split_at_mut-low-else-into-from.result.0.now c.index-low-from.result (some c.args.from c.if-from-eq0.false) c.if-into-from.false c.split_at_mut-low-else-into-from.ensures.front) }

pub returns-else-into-from-clause-merged : goal.returns-else-into-from-clause-merged
returns-else-into-from-clause-merged c = on_ok_weaker c.merge_stores-else-into-from.result (λ m. nodes_merged c.args.source.now c.args.relays.now c.args.into c.args.from c.requires.places c.requires.tier _ _ (first_is c.args.source.now c.args.relays.now c.args.into c.args.from c.requires.places c.split_at_mut-low-else-into-from.result.1.now c.index-high-0-else-into-from.result c.split_at_mut-low-else-into-from.ensures.back) (other_is c.args.source.now c.args.relays.now c.args.into c.args.from c.requires.places c.split_at_mut-low-else-into-from.result.0.now c.index-low-from.result (some c.args.from c.if-from-eq0.false) c.if-into-from.false c.split_at_mut-low-else-into-from.ensures.front) c.merge_stores-else-into-from.new.store _ (high_after c.args.source.now c.args.relays.now c.args.into c.args.from c.requires.places c.split_at_mut-low-else-into-from.result.0.now c.split_at_mut-low-else-into-from.result.1.now c.merge_stores-else-into-from.new.store c.split_at_mut-low-else-into-from.ensures.front c.split_at_mut-low-else-into-from.ensures.back) m) c.merge_stores-else-into-from.ensures.merged

pub returns-else-into-from-clause-memory : goal.returns-else-into-from-clause-memory
returns-else-into-from-clause-memory c = if_err_weaker c.merge_stores-else-into-from.result (λ e m. (m.0, nodes_left c.args.source.now c.args.relays.now c.args.into c.args.from c.requires.places c.requires.tier _ _ (first_is c.args.source.now c.args.relays.now c.args.into c.args.from c.requires.places c.split_at_mut-low-else-into-from.result.1.now c.index-high-0-else-into-from.result c.split_at_mut-low-else-into-from.ensures.back) (other_is c.args.source.now c.args.relays.now c.args.into c.args.from c.requires.places c.split_at_mut-low-else-into-from.result.0.now c.index-low-from.result (some c.args.from c.if-from-eq0.false) c.if-into-from.false c.split_at_mut-low-else-into-from.ensures.front) c.merge_stores-else-into-from.new.store _ (high_after c.args.source.now c.args.relays.now c.args.into c.args.from c.requires.places c.split_at_mut-low-else-into-from.result.0.now c.split_at_mut-low-else-into-from.result.1.now c.merge_stores-else-into-from.new.store c.split_at_mut-low-else-into-from.ensures.front c.split_at_mut-low-else-into-from.ensures.back) m.1)) c.merge_stores-else-into-from.ensures.memory

pub returns-else-into-from-clause-tier : goal.returns-else-into-from-clause-tier
returns-else-into-from-clause-tier c = tier_merged c.args.source.now c.args.relays.now c.args.into c.args.from c.requires.places c.requires.tier _ _ (first_is c.args.source.now c.args.relays.now c.args.into c.args.from c.requires.places c.split_at_mut-low-else-into-from.result.1.now c.index-high-0-else-into-from.result c.split_at_mut-low-else-into-from.ensures.back) (other_is c.args.source.now c.args.relays.now c.args.into c.args.from c.requires.places c.split_at_mut-low-else-into-from.result.0.now c.index-low-from.result (some c.args.from c.if-from-eq0.false) c.if-into-from.false c.split_at_mut-low-else-into-from.ensures.front) c.merge_stores-else-into-from.new.store _ (high_after c.args.source.now c.args.relays.now c.args.into c.args.from c.requires.places c.split_at_mut-low-else-into-from.result.0.now c.split_at_mut-low-else-into-from.result.1.now c.merge_stores-else-into-from.new.store c.split_at_mut-low-else-into-from.ensures.front c.split_at_mut-low-else-into-from.ensures.back) c.merge_stores-else-into-from.ensures.node

pub returns-else-into-from-clause-grow : goal.returns-else-into-from-clause-grow
returns-else-into-from-clause-grow c = grow_merged c.args.source.now c.args.relays.now c.args.into c.args.from c.requires.places c.requires.tier _ _ (first_is c.args.source.now c.args.relays.now c.args.into c.args.from c.requires.places c.split_at_mut-low-else-into-from.result.1.now c.index-high-0-else-into-from.result c.split_at_mut-low-else-into-from.ensures.back) (other_is c.args.source.now c.args.relays.now c.args.into c.args.from c.requires.places c.split_at_mut-low-else-into-from.result.0.now c.index-low-from.result (some c.args.from c.if-from-eq0.false) c.if-into-from.false c.split_at_mut-low-else-into-from.ensures.front) c.merge_stores-else-into-from.new.store _ (high_after c.args.source.now c.args.relays.now c.args.into c.args.from c.requires.places c.split_at_mut-low-else-into-from.result.0.now c.split_at_mut-low-else-into-from.result.1.now c.merge_stores-else-into-from.new.store c.split_at_mut-low-else-into-from.ensures.front c.split_at_mut-low-else-into-from.ensures.back) c.merge_stores-else-into-from.ensures.extends
