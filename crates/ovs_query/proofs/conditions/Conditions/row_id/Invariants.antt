use Rattle.std.proofs.Common.{◌≡◌, true, take}
use Rattle.std.specs.List.{list_all}
use Rattle.ovs_query.specs.Conditions.{names_no_row}
use Rattle.ovs_query.proofs.conditions.Conditions.row_id.Given as goal

-- none so far says which id a row has to have
abbrev pub invariant-loop-condition : goal.invariant-loop-condition
invariant-loop-condition l = list_all names_no_row (take l.condition-index l.condition-items) ≡ true
