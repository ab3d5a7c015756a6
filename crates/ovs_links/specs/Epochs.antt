-- Chains that begin anew at a greater start, and histories of several epochs.
use Rattle.std.specs.Prelude.{◌≡◌, ◌⊎◌, ◌++◌, ◌≤◌, ◌<◌, ◌^◌, ◌&&◌, ℕ, Bool, true, List, [], ◌∷◌, length, take, nat_lt, if◌then◌else◌}
use Rattle.std.specs.Ordering.{nat_cmp}
use Rattle.std.specs.FinMap.{FinMap, values}
use Rattle.ovs_types.specs.declared.schema.Table.{Table}
use Rattle.ovs_rows.specs.Row.{Rows, no_rows}
use Rattle.ovs_rows.specs.After.{fits}
use Rattle.ovs_rows.specs.DatabaseDifference.{HaveSameData, IsCommit}
use Rattle.ovs_links.specs.Link.{IsStart}
use Rattle.ovs_links.specs.Chains.{IsLongestChain, rows_after}
use Rattle.ovs_links.specs.History.{Commit, IsNoId, AreDistinct, IsHistory, links_of, rows_at, IsHeldCount}
use Rattle.ovs_links.specs.declared.link.Link.{Link}

-- ---- where a chain begins

-- a chain of the set can begin with this link: it comes from a start, and its change fits no rows
pub record Opens (S : Link → Type 0) (l : Link) : Type 0 where
  pub member : S l
  pub from_start : IsStart l.prev
  pub fits_none : fits no_rows l.change ≡ true

-- the greatest start from which the set has such a link, or 0
pub record IsOpening (S : Link → Type 0) (start : ℕ) : Type 0 where
  pub found : (start ≡ 0) ⊎ ((l : Link) × Opens S l × (l.prev ≡ start))
  pub greatest : (l : Link) → Opens S l → l.prev ≤ start

-- the same as a function of the links of a map

abbrev pub opens : Link → Bool
opens l = nat_lt l.prev (2 ^ 64) && fits no_rows l.change

-- this id, or a greater one that the link comes from, if a chain can begin with it
abbrev pub later_start : Link → ℕ → ℕ
later_start l start = if opens l && nat_lt start l.prev then l.prev else start

abbrev pub greatest_start : List Link → ℕ
greatest_start [] = 0
greatest_start (l ∷ ls) = later_start l (greatest_start ls)

unfoldable pub opening_of : FinMap nat_cmp Link → ℕ
opening_of m = greatest_start (values m)

-- the chain of a set: the longest that begins there with no rows
pub record IsLatestChain (tables : List Table) (S : Link → Type 0) (ls : List Link) : Type 0 where
  pub start : ℕ
  pub opening : IsOpening S start
  pub longest : IsLongestChain tables start no_rows S ls

-- ---- histories of several epochs

-- the start of an epoch, and its commits
pub record Epoch : Type 0 where
  pub start : ℕ
  pub commits : List Commit

-- the rows after the last commit of an epoch
abbrev pub last_rows : List Commit → Rows
last_rows ks = rows_at no_rows ks (length ks)

-- the first commit has the data of these rows
abbrev pub CarriesOn : Rows → List Commit → Type 0
CarriesOn rows [] = ⊥
CarriesOn rows (k ∷ ks) = HaveSameData rows k.rows

-- epochs after a start and these rows: their starts rise, each is a history of its own from no rows, and its first commit
-- has the data before it
abbrev pub EpochsFrom : List Table → ℕ → Rows → List Epoch → Type 0
EpochsFrom tables start rows [] = Unit {0}
EpochsFrom tables start rows (e ∷ es) =
    (start < e.start) × IsStart e.start × IsHistory tables no_rows e.commits × CarriesOn rows e.commits
    × EpochsFrom tables e.start (last_rows e.commits) es

-- a source's history: the commits from 0, and the later epochs
pub record EpochHistory : Type 0 where
  pub first : List Commit
  pub later : List Epoch

abbrev pub epochs_of : EpochHistory → List Epoch
epochs_of h = record { start = 0; commits = h.first } ∷ h.later

abbrev pub commits_in : List Epoch → List Commit
commits_in [] = []
commits_in (e ∷ es) = e.commits ++ commits_in es

pub record IsEpochHistory (tables : List Table) (h : EpochHistory) : Type 0 where
  pub first : IsHistory tables no_rows h.first
  pub later : EpochsFrom tables 0 (last_rows h.first) h.later
  pub distinct : AreDistinct (commits_in (epochs_of h))

-- where the latest epoch begins, and the rows after its last commit
abbrev pub start_now : ℕ → List Epoch → ℕ
start_now start [] = start
start_now start (e ∷ es) = start_now e.start es

abbrev pub rows_now : Rows → List Epoch → Rows
rows_now rows [] = rows
rows_now rows (e ∷ es) = rows_now (last_rows e.commits) es

-- a history that begins a new epoch with this commit
abbrev pub begun_epoch : EpochHistory → ℕ → Commit → EpochHistory
begun_epoch h start k = record { first = h.first; later = h.later ++ record { start = start; commits = k ∷ [] } ∷ [] }

-- a new epoch may begin so: at a greater start, with a new id, the data that there are, and this id as every row's version
pub record IsNextEpoch (tables : List Table) (h : EpochHistory) (start : ℕ) (k : Commit) : Type 0 where
  pub above : start_now 0 h.later < start
  pub below : IsStart start
  pub past : 2 ^ 64 ≤ k.id
  pub new : IsNoId k.id (commits_in (epochs_of h))
  pub commit : IsCommit tables no_rows k.rows k.id
  pub same : HaveSameData (rows_now (last_rows h.first) h.later) k.rows

-- the latest epoch
abbrev pub latest_from : Epoch → List Epoch → Epoch
latest_from e [] = e
latest_from e (d ∷ ds) = latest_from d ds

abbrev pub latest_of : EpochHistory → Epoch
latest_of h = latest_from (record { start = 0; commits = h.first }) h.later

-- with one more commit in it
abbrev pub with_commit : Epoch → Commit → Epoch
with_commit e k = record { start = e.start; commits = e.commits ++ k ∷ [] }

abbrev pub committed_in : Epoch → List Epoch → Commit → List Epoch
committed_in e [] k = with_commit e k ∷ []
committed_in e (d ∷ ds) k = e ∷ committed_in d ds k

abbrev pub committed_by : List Commit → List Epoch → Commit → EpochHistory
committed_by first [] k = record { first = first ++ k ∷ []; later = [] }
committed_by first (e ∷ es) k = record { first = first; later = committed_in e es k }

abbrev pub committed : EpochHistory → Commit → EpochHistory
committed h k = committed_by h.first h.later k

-- the links of an epoch, the first of which inserts all rows
abbrev pub links_within : List Table → Epoch → List Link
links_within tables e = links_of tables e.start no_rows e.commits

-- the links of all epochs
abbrev pub links_in : List Table → List Epoch → List Link
links_in tables [] = []
links_in tables (e ∷ es) = links_within tables e ++ links_in tables es

-- ---- what a set holds of a history

abbrev pub IsEpochIn : List Epoch → Epoch → Type 0
IsEpochIn [] d = ⊥
IsEpochIn (e ∷ es) d = (d ≡ e) ⊎ IsEpochIn es d

-- the set holds the first of these links
abbrev pub HoldsFirst : (Link → Type 0) → List Link → Type 0
HoldsFirst S [] = ⊥
HoldsFirst S (l ∷ ls) = S l

-- the latest epoch of which the set holds the first link, or that from 0 where there is none
pub record IsLatestEpoch (tables : List Table) (S : Link → Type 0) (es : List Epoch) (e : Epoch) : Type 0 where
  pub among : IsEpochIn es e
  pub first : (e.start ≡ 0) ⊎ HoldsFirst S (links_within tables e)
  pub latest : (d : Epoch) → IsEpochIn es d → HoldsFirst S (links_within tables d) → d.start ≤ e.start

-- the chain is that of this epoch, up to the first of its links that the set doesn't hold, and leads to the rows there
pub record IsEpochChain (tables : List Table) (S : Link → Type 0) (es : List Epoch) (ls : List Link) : Type 0 where
  pub epoch : Epoch
  pub latest : IsLatestEpoch tables S es epoch
  pub count : IsHeldCount S (links_within tables epoch) (length ls)
  pub same : ls ≡ take (length ls) (links_within tables epoch)
  pub rows : rows_after tables no_rows ls ≡ rows_at no_rows epoch.commits (length ls)
