-- What beginning a new epoch answers, and what it makes of a source.
use Rattle.std.specs.Prelude.{◌≡◌, ◌++◌, ℕ, suc, List, [], ◌∷◌, Result, Ok, Err}
use Rattle.std.specs.FinMap.{len}
use Rattle.ovs_types.specs.declared.schema.Table.{Table}
use Rattle.ovs_rows.specs.Row.{no_rows}
use Rattle.ovs_rows.specs.DatabaseDifference.{database_difference}
use Rattle.ovs_links.specs.Link.{IsStart}
use Rattle.ovs_links.specs.History.{Commit}
use Rattle.ovs_links.specs.Epochs.{EpochHistory, epochs_of, links_in, begun_epoch}
use Rattle.ovs_links.specs.Restarting.{after_restart}
use Rattle.ovs_links.specs.Store.{Stored, tables_of, rows_of, start_in, max_links}
use Rattle.ovs_links.specs.declared.link.Link.{Link}
use Rattle.ovs_source.specs.Commits.{IsSourceOf, IsTaken}
use Rattle.ovs_source.specs.declared.trim_error.TrimError.{TrimError}
use Rattle.ovs_source.specs.declared.trim_error.TrimError.TheVariants.{IdTaken, EpochsSpent, Full, NoMemory}

-- the start of the next epoch
abbrev pub next_start : Stored → ℕ
next_start s = suc (start_in s)

-- the link that begins it: all rows are inserted anew
abbrev pub renewing : Stored → ℕ → Link
renewing s id = record { prev = next_start s; id = id; change = database_difference (tables_of s) no_rows (rows_of s) }

-- what trimming answers, and what it leaves: a refusal changes nothing
abbrev pub TrimsTo : Stored → ℕ → Result Link TrimError → Stored → Type 0
TrimsTo s id (Ok l) t = ¬ (IsTaken s id) × (l ≡ renewing s id) × (t ≡ after_restart s l (Ok tt))
TrimsTo s id (Err IdTaken) t = IsTaken s id × (t ≡ s)
TrimsTo s id (Err EpochsSpent) t = ¬ (IsTaken s id) × ¬ (IsStart (next_start s)) × (t ≡ s)
TrimsTo s id (Err Full) t = ¬ (IsTaken s id) × IsStart (next_start s) × (len s.links ≡ max_links) × (t ≡ s)
TrimsTo s id (Err NoMemory) t = t ≡ s

-- a history with another epoch, whose first commit makes this link
pub record IsRenewed (tables : List Table) (h : EpochHistory) (l : Link) (k : EpochHistory) : Type 0 where
  pub commit : Commit
  pub id : commit.id ≡ l.id
  pub is : k ≡ begun_epoch h l.prev commit
  pub links : links_in tables (epochs_of k) ≡ links_in tables (epochs_of h) ++ l ∷ []

-- of whatever history the source was, it is then of one with another epoch
abbrev pub BeginsEpoch : Stored → Link → Stored → Type 0
BeginsEpoch s l t = (h : EpochHistory) → IsSourceOf s h → (k : EpochHistory) × IsRenewed (tables_of s) h l k × IsSourceOf t k
