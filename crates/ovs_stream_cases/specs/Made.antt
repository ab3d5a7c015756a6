-- Links as a source makes them in a database without rows, and the history that they are of.
use Rattle.std.specs.Prelude.{◌≡◌, ◌==◌, ◌≤◌, ◌^◌, ℕ, false, List, [], ◌∷◌}
use Rattle.std.specs.List.{list_any}
use Rattle.ovs_types.specs.declared.schema.Table.{Table}
use Rattle.ovs_rows.specs.Row.{Rows, no_rows}
use Rattle.ovs_rows.specs.After.{after}
use Rattle.ovs_rows.specs.DatabaseDifference.{database_difference, IsCommit}
use Rattle.ovs_links.specs.History.{Commit, IsHistory, links_of}
use Rattle.ovs_links.specs.Epochs.{EpochHistory}
use Rattle.ovs_links.specs.declared.link.Link.{Link}

-- the rows after a link
abbrev pub rows_behind : List Table → Rows → Link → Rows
rows_behind tables rows l = after tables rows l.change l.id

-- the link leads on from this commit and these rows, before these others: under its id, which none of them has, its rows are committed with
-- exactly the difference
pub record IsNext (tables : List Table) (head : ℕ) (rows : Rows) (l : Link) (later : List Link) : Type 0 where
  pub prev : l.prev ≡ head
  pub past : 2 ^ 64 ≤ l.id
  pub alone : list_any (λ m. m.id == l.id) later ≡ false
  pub commit : IsCommit tables rows (rows_behind tables rows l) l.id
  pub difference : l.change ≡ database_difference tables rows (rows_behind tables rows l)

-- each leads on from the one before it
abbrev pub AreMadeFrom : List Table → ℕ → Rows → List Link → Type 0
AreMadeFrom tables head rows [] = Unit {0}
AreMadeFrom tables head rows (l ∷ ls) = IsNext tables head rows l ls × AreMadeFrom tables l.id (rows_behind tables rows l) ls

-- the commits that the links make
abbrev pub commits_of : List Table → Rows → List Link → List Commit
commits_of tables rows [] = []
commits_of tables rows (l ∷ ls) = record { id = l.id; rows = rows_behind tables rows l } ∷ commits_of tables (rows_behind tables rows l) ls

-- a history that never began anew
abbrev pub one_epoch : List Commit → EpochHistory
one_epoch commits = record { first = commits; later = [] }

-- the commits are a history, and these are its links
pub record IsHistoryOf (tables : List Table) (commits : List Commit) (ls : List Link) : Type 0 where
  pub history : IsHistory tables no_rows commits
  pub links : ls ≡ links_of tables 0 no_rows commits

-- a source may have made these links
abbrev pub IsMade : List Table → List Link → Type 0
IsMade tables ls = IsHistoryOf tables (commits_of tables no_rows ls) ls
