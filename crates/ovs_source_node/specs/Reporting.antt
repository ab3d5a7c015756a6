-- What comes of a source that has run.
use Rattle.std.specs.Prelude.{◌≡◌, ℕ, List, [], ◌∷◌}
use Rattle.ovs_node_threads.specs.Reporting.{IsReportOf}
use Rattle.ovs_sync.specs.Feed.{FeedValue, IsDrained}
use Rattle.ovs_links.specs.Epochs.{IsEpochChain, epochs_of}
use Rattle.ovs_links.specs.Sets.{Holds}
use Rattle.ovs_links.specs.Store.{Stored, tables_of}
use Rattle.ovs_links.specs.declared.answer.Settled.{Settled}
use Rattle.ovs_links.specs.declared.link.Link.{Link}
use Rattle.ovs_source.specs.SourceDesk.{AreFirst}

-- What the one end of its feed has sent was all taken, and is all that its desk gave, in this order: the first links of a history. None was
-- refused as a contradiction; and what is folded is the latest epoch of that history of which the first link is held, as far as all of it is
-- held, with the rows there.
pub record IsOwnReport (gives : List Link → Type 0) (feed : FeedValue Link) (store : Stored) (settled : Settled) (forks short dropped : ℕ) : Type 0 where
  pub sent : List Link
  pub all : feed.returned ≡ sent ∷ []
  pub drained : IsDrained feed
  pub given : gives sent
  pub of : IsReportOf (sent ∷ []) store settled forks short dropped
  pub first : AreFirst (tables_of store) sent
  pub consistent : forks ≡ 0
  pub folded : IsEpochChain (tables_of store) (Holds store.links) (epochs_of first.history) store.folded
