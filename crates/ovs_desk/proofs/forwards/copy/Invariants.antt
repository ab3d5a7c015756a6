use Rattle.std.proofs.Common.{◌≡◌, take}
use Rattle.std.specs.Prelude.{vec_capacity}
use Rattle.ovs_desk.proofs.forwards.copy.Given as goal

abbrev pub invariant-loop-one : goal.invariant-loop-one
invariant-loop-one l = record {
  so_far : l.due.items ≡ take l.one-index l.all;
  room : vec_capacity l.due ≡ vec_capacity l.fn.due;
}
