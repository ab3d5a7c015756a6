use Rattle.std.proofs.Common.{◌≡◌, ◌++◌, drop}
use Rattle.std.specs.Prelude.{not}
use Rattle.std.specs.List.{filter}
use Rattle.ovs_data.specs.Datum.{has_element}
use Rattle.ovs_data.proofs.datum.Datum.deleted_from_set.Given as goal

-- those so far, and those of what is left
abbrev pub invariant-loop-atom : goal.invariant-loop-atom
invariant-loop-atom l = l.kept.items ++ filter (λ x. not (has_element x l.self)) (drop l.atom-index l.atom-items) ≡ filter (λ x. not (has_element x l.self)) l.atom-items
