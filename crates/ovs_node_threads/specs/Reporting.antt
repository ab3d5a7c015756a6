-- What comes of a node that has run.
use Rattle.std.specs.Prelude.{◌≡◌, ◌≢◌, ℕ, Bool, List, None, length}
use Rattle.std.specs.List.{AllByRecursion}
use Rattle.ovs_sync.specs.Feed.{FeedValue, IsDrained}
use Rattle.ovs_node.specs.Ledger.{IsAccountOf, WasSent}
use Rattle.ovs_node.specs.declared.refused.RefusedLink.{RefusedLink}
use Rattle.ovs_links.specs.Epochs.{EpochHistory, IsEpochChain, IsEpochHistory, epochs_of, links_in}
use Rattle.ovs_links.specs.Pruning.{IsOld}
use Rattle.ovs_links.specs.Sets.{Among, Contradict, Holds}
use Rattle.ovs_links.specs.Settling.{settled_of}
use Rattle.ovs_links.specs.Store.{IsChainOf, Stored, start_in, tables_of}
use Rattle.ovs_links.specs.declared.answer.Settled.{Settled}
use Rattle.ovs_links.specs.declared.link.Link.{Link}

-- each of these lists, which the ends of a feed have sent, is one that may be sent
abbrev pub AreSent : (List Link → Type 0) → List (List Link) → Type 0
AreSent sends sent = AllByRecursion sends sent

-- as many ends were made, and the same are back
abbrev pub KeepsEnds : FeedValue Link → FeedValue Link → Type 0
KeepsEnds old new = (new.ends ≡ old.ends) × (new.returned ≡ old.returned)

-- What a node is to which these lists of links were sent, one by each end of its feed. The longest chain is folded. Each held link was sent; and where none was refused each
-- that was sent is held, but for those of older epochs where any was dropped. None was refused as a contradiction where no two that were
-- sent contradict each other. Where all that were sent are links of one history, none was, and what is folded is the latest epoch of it of
-- which the first link is held, as far as all of it is held, with the rows there.
pub record IsReportOf (sent : List (List Link)) (store : Stored) (settled : Settled) (forks short dropped : ℕ) : Type 0 where
  pub chain : IsChainOf store store.folded
  pub settled_as : settled ≡ settled_of store
  pub held : (l : Link) → Holds store.links l → WasSent sent l
  pub whole : forks ≡ 0 → short ≡ 0 → (l : Link) → WasSent sent l
      → ¬ ((dropped ≢ 0) × IsOld (WasSent sent) (start_in store) l) → Holds store.links l
  pub agree : ((l m : Link) → WasSent sent l → WasSent sent m → ¬ (Contradict l m)) → forks ≡ 0
  pub history : (h : EpochHistory) → IsEpochHistory (tables_of store) h
      → ((l : Link) → WasSent sent l → Among (links_in (tables_of store) (epochs_of h)) l)
      → (forks ≡ 0) × IsEpochChain (tables_of store) (Holds store.links) (epochs_of h) store.folded

-- All ends of the feed are back, so many of them, and all that they have sent was taken. What each has sent is such a list of links, and
-- the report is that of what they sent.
pub record IsReport (sends : List Link → Type 0) (ends : ℕ) (feed : FeedValue Link) (store : Stored) (settled : Settled) (forks short dropped : ℕ) : Type 0 where
  pub all : length feed.returned ≡ ends
  pub drained : IsDrained feed
  pub admitted : ∥ AreSent sends feed.returned ∥₁
  pub of : IsReportOf feed.returned store settled forks short dropped

-- each link that was taken of the feed was new and taken into the store, was held already, or was refused for what is said, and those that
-- were refused and dropped are counted
abbrev pub HasAccount : FeedValue Link → Stored → ℕ → ℕ → ℕ → List RefusedLink → Type 0
HasAccount feed store forks short dropped untold = (prunes : Bool)
    × IsAccountOf (record { store = store; feed = feed; kept = None; forks = forks; short = short; dropped = dropped; prunes = prunes; untold = untold })
