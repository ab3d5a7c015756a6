use Rattle.std.specs.Prelude.{◌≡◌, []}
use Rattle.std.specs.List.{AllByRecursion}
use Rattle.std.specs.Vec.Iter.{into_iter_items}
use Rattle.ovs_server.proofs.relay.senders_of.Given as goal

-- to the ends that are left nothing was sent
abbrev pub invariant-loop-end : goal.invariant-loop-end
invariant-loop-end g l = AllByRecursion (λ e. e.1 ≡ []) (into_iter_items l.end-iterator)
