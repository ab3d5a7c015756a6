use Rattle.std.proofs.Common.{◌≡◌, ◌+◌}
use Rattle.std.specs.Prelude.{vec_len, vec_capacity}
use Rattle.std.specs.Vec.Iter.{into_iter_len}
use Rattle.ovs_sync.proofs.threads.scoped.end_all.Given as goal

-- the jobs that are left and those that ended are all
abbrev pub invariant-loop-one : goal.invariant-loop-one
invariant-loop-one g l =
    (into_iter_len l.one-iterator + vec_len l.results ≡ vec_len l.fn.begun) × (vec_capacity l.results ≡ vec_capacity l.fn.results)
