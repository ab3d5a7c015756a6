-- The last lines of the script `fold`.
use Rattle.std.specs.Prelude.{ℕ, List, [], ◌++◌, ◌-◌, length, Bool, true, false, codes}
use Rattle.std.specs.FinMap.{len}
use Rattle.std.specs.Fmt.{decimal}
use Rattle.serde_json.specs.Written.{compact_text}
use Rattle.ovs_types.specs.Id.{id_text}
use Rattle.ovs_rows.specs.Database.{DatabaseValue}
use Rattle.ovs_rows.specs.Writing.{database_json}
use Rattle.ovs_links.specs.Store.{Stored, head_of, rows_of}
use Rattle.ovs_links.specs.Settling.{settled_of, after_settle}
use Rattle.ovs_links.specs.declared.answer.Settled.{Settled}
use Rattle.ovs_links.specs.declared.answer.Settled.TheVariants.{Done, Stuck}

-- the id of the held link that follows the chain and doesn't fit, if there is one
abbrev pub stuck_line : Settled → List ℕ
stuck_line Done = []
stuck_line (Stuck id) = codes "stuck " ++ (id_text id ++ codes "\n")

abbrev pub head_line : ℕ → List ℕ
head_line head = codes "head " ++ (id_text head ++ codes "\n")

abbrev pub counts_line : ℕ → ℕ → List ℕ
counts_line links chain = codes "links " ++ (decimal links ++ (codes " chain " ++ (decimal chain ++ (codes " parked " ++ (decimal (links - chain) ++ codes "\n")))))

-- of a settled store: its head; how many links are held, in the chain and parked
abbrev pub chain_lines : Stored → List ℕ
chain_lines s = head_line (head_of s) ++ counts_line (len s.links) (length s.folded)

abbrev pub database_line : DatabaseValue → List ℕ
database_line database = compact_text (database_json database) ++ codes "\n"

-- the database after a store's chain
abbrev pub database_of : Stored → DatabaseValue
database_of s = record { schema = s.schema; rows = rows_of s }

-- of a settled store: where it is stuck, if it is; its chain; the database
abbrev pub last_lines : Settled → Stored → List ℕ
last_lines settled s =
    stuck_line settled ++ (chain_lines s ++ database_line (database_of s))

-- the same of a store once its longest chain is folded
abbrev pub end_text : Stored → List ℕ
end_text s = last_lines (settled_of s) (after_settle s)

abbrev pub is_done : Settled → Bool
is_done Done = true
is_done (Stuck id) = false

-- the chain isn't stuck
abbrev pub is_whole_chain : Stored → Bool
is_whole_chain s = is_done (settled_of s)
