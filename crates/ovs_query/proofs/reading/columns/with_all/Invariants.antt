use Rattle.std.proofs.Common.{◌≡◌, ◌++◌, drop}
use Rattle.ovs_query.specs.ConditionReading.{numbered_from}
use Rattle.ovs_query.proofs.reading.columns.with_all.Given as goal

-- the columns so far, and those that are left
abbrev pub invariant-loop-number : goal.invariant-loop-number
invariant-loop-number l = l.items.items ++ numbered_from l.number (drop l.number l.columns) ≡ l.initial.items.items ++ numbered_from 0 l.columns
