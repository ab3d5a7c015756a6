use Rattle.std.proofs.Common.{◌≡◌, ◌+◌}
use Rattle.std.specs.Prelude.{vec_len, vec_capacity}
use Rattle.std.specs.Vec.Iter.{into_iter_len}
use Rattle.ovs_sync.proofs.threads.scoped.begin_all.Given as goal

-- the jobs that are left and those that were begun are all
abbrev pub invariant-loop-job : goal.invariant-loop-job
invariant-loop-job g l =
    (into_iter_len l.job-iterator + vec_len l.begun ≡ vec_len l.fn.jobs) × (vec_capacity l.begun ≡ vec_capacity l.fn.begun)
