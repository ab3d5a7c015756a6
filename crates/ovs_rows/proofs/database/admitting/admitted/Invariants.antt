use Rattle.std.proofs.Common.{◌≡◌, map, take}
use Rattle.ovs_rows.specs.Applied.{seen}
use Rattle.ovs_rows.specs.Admitting.{admitted}
use Rattle.ovs_rows.proofs.database.admitting.admitted.Given as goal

abbrev pub invariant-loop-row : goal.invariant-loop-row
invariant-loop-row l = map seen l.rows.items ≡ admitted l.tables (map seen (take l.row-index l.touched))
