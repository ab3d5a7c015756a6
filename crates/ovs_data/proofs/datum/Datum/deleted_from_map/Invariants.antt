use Rattle.std.proofs.Common.{◌≡◌, ◌++◌, drop}
use Rattle.std.specs.Prelude.{not}
use Rattle.std.specs.List.{filter}
use Rattle.ovs_data.specs.Mutation.{deletes}
use Rattle.ovs_data.proofs.datum.Datum.deleted_from_map.Given as goal

-- those so far, and those of what is left
abbrev pub invariant-loop-pair : goal.invariant-loop-pair
invariant-loop-pair l = l.kept.items ++ filter (λ q. not (deletes l.self q)) (drop l.pair-index l.pair-items) ≡ filter (λ q. not (deletes l.self q)) l.pair-items
