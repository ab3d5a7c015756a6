-- What is left of a relay behind a source that has a history.
use Rattle.std.specs.Prelude.{◌≡◌, ℕ, List}
use Rattle.ovs_types.specs.declared.schema.Table.{Table}
use Rattle.ovs_links.specs.Epochs.{IsEpochChain, epochs_of}
use Rattle.ovs_links.specs.History.{Commit}
use Rattle.ovs_links.specs.Sets.{Holds}
use Rattle.ovs_links.specs.Store.{Stored}
use Rattle.ovs_stream_cases.specs.Made.{one_epoch}

-- no link was refused as a contradiction, and of the links that are held the longest chain is folded, with the source's rows after as many
-- commits
abbrev pub HasOf : List Table → List Commit → Stored → ℕ → Type 0
HasOf tables commits s forks = ∥ (forks ≡ 0) × IsEpochChain tables (Holds s.links) (epochs_of (one_epoch commits)) s.folded ∥₁
