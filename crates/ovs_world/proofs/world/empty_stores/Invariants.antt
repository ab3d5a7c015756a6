use Rattle.std.proofs.Common.{◌≡◌, replicate}
use Rattle.ovs_world.specs.Worlds.{empty_store}
use Rattle.ovs_world.proofs.world.empty_stores.Given as goal

abbrev pub invariant-loop : goal.invariant-loop
invariant-loop l = l.stores.items ≡ replicate l.counter (empty_store l.schema)
