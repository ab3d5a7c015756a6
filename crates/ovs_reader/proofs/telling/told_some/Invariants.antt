use Rattle.std.proofs.Common.{◌≡◌, ◌<◌, ℕ, List, length, take, drop}
use Rattle.ovs_types.specs.declared.schema.Table.{Table}
use Rattle.ovs_reader.specs.Session.{AreMonitorsOf, AreStepsOf}
use Rattle.ovs_reader.specs.Telling.{told, AreToldReadably}
use Rattle.ovs_reader.proofs.telling.told_some.Given as goal

-- the notifications of the steps so far, and that fewer steps give fewer than so many
abbrev pub invariant-loop-number : goal.invariant-loop-number
invariant-loop-number l = record {
  so_far : l.messages.items ≡ told l.monitors (take l.number l.steps);
  few : (k : ℕ) → k < l.number → length (told l.monitors (take k l.steps)) < l.most;
  readable : AreToldReadably l.monitors (take l.number l.steps);
  tables : (tables : List Table) × AreMonitorsOf tables l.monitors × AreStepsOf tables (drop l.number l.steps);
}
