use Rattle.std.proofs.Common.{◌≢◌, ◌≤◌, ℕ, take}
use Rattle.ovs_links.specs.Chains.{start_of, head_after}
use Rattle.ovs_stream_cases.proofs.stream.place_of.Given as goal

-- the id stands behind none of the links so far
abbrev pub invariant-loop-number : goal.invariant-loop-number
invariant-loop-number l = (k : ℕ) → k ≤ l.number → head_after (start_of l.links) (take k l.links) ≢ l.asked
