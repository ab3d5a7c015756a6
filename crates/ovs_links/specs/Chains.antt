-- Chains of a set of links, from a start id and the rows of an opening database.
use Rattle.std.specs.Prelude.{◌≡◌, ℕ, ◌≤◌, ◌<◌, ◌⊎◌, ◌++◌, true, List, [], ◌∷◌, length}
use Rattle.ovs_types.specs.declared.schema.Table.{Table}
use Rattle.ovs_rows.specs.Row.{Rows}
use Rattle.ovs_rows.specs.After.{fits, after}
use Rattle.ovs_links.specs.Sets.{AllOf}
use Rattle.ovs_links.specs.declared.link.Link.{Link}

-- the links join up, prev to id, from this id, and their changes fit one after the other from these rows
abbrev pub JoinUp : List Table → ℕ → Rows → List Link → Type 0
JoinUp tables from rows [] = Unit {0}
JoinUp tables from rows (l ∷ ls) =
    (l.prev ≡ from) × (fits rows l.change ≡ true) × JoinUp tables l.id (after tables rows l.change l.id) ls

-- the last id, or the one before the first link
abbrev pub head_after : ℕ → List Link → ℕ
head_after from [] = from
head_after from (l ∷ ls) = head_after l.id ls

-- the rows after all changes, one after the other
abbrev pub rows_after : List Table → Rows → List Link → Rows
rows_after tables rows [] = rows
rows_after tables rows (l ∷ ls) = rows_after tables (after tables rows l.change l.id) ls

-- links of the set that join up from the start
pub record IsChain (tables : List Table) (start : ℕ) (opening : Rows) (S : Link → Type 0) (ls : List Link)
    : Type 0 where
  pub members : AllOf S ls
  pub joined : JoinUp tables start opening ls

-- a chain of the set, and no other is longer
pub record IsLongestChain (tables : List Table) (start : ℕ) (opening : Rows) (S : Link → Type 0) (ls : List Link)
    : Type 0 where
  pub chain : IsChain tables start opening S ls
  pub longest : (ms : List Link) → IsChain tables start opening S ms → length ms ≤ length ls

abbrev pub IsPrefixOf : List Link → List Link → Type 0
IsPrefixOf xs ys = (rest : List Link) × (xs ++ rest ≡ ys)

-- where links that join up begin: at the prev of the first, or at 0
abbrev pub start_of : List Link → ℕ
start_of [] = 0
start_of (l ∷ ls) = l.prev

-- a chain that goes on from another: one that begins with all of its links, or one that begins at a greater start
pub record GrowsInto (xs ys : List Link) : Type 0 where
  pub goes_on : IsPrefixOf xs ys ⊎ (start_of xs < start_of ys)
