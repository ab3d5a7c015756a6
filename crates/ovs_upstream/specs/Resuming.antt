-- What a session that knows the database at the id that it asks makes of a whole copy.
use Rattle.std.specs.Prelude.{◌≡◌, ◌≤◌, ℕ, suc, true, false, List, [], ◌∷◌, ◌^◌, Ok, Some, map, slice_get, take, drop}
use Rattle.serde_json.specs.Data.{Data}
use Rattle.ovs_types.specs.SchemaReading.{read_description}
use Rattle.ovs_types.specs.declared.schema.Description.{Description}
use Rattle.ovs_types.specs.declared.schema.Table.{Table}
use Rattle.ovs_rows.specs.After.{Fits, after}
use Rattle.ovs_rows.specs.Change.{Actions, IsChangeOf}
use Rattle.ovs_rows.specs.ChangeReading.{read_change}
use Rattle.ovs_rows.specs.DatabaseDifference.{database_difference, HaveSameData, IsDatabaseDifference}
use Rattle.ovs_rows.specs.Row.{Rows, no_rows}
use Rattle.ovs_links.specs.History.{Commit, links_of, rows_at}
use Rattle.ovs_links.specs.declared.link.Link.{Link}
use Rattle.ovs_wire.specs.declared.message.Message.{Message}
use Rattle.ovs_upstream.specs.Hearing.{says}
use Rattle.ovs_upstream.specs.Lawful.{IsAt, LawfulFrom}
use Rattle.ovs_upstream.specs.Talk.{Talk, Schema, Reached, Update, Aside, Improper, talk_of}

-- the link leads from these rows, at the one id, to the data of the copy, at the other, and says only what differs
pub record LeadsToCopy (tables : List Table) (known copy : Rows) (asked id : ℕ) (l : Link) : Type 0 where
  pub prev : l.prev ≡ asked
  pub id_is : l.id ≡ id
  pub of_tables : IsChangeOf tables l.change
  pub difference : IsDatabaseDifference tables known copy l.change
  pub fit : Fits known l.change
  pub same_data : HaveSameData copy (after tables known l.change l.id)

-- the updates spell all the rows of a database
abbrev pub IsCopy : List Table → Data → Type 0
IsCopy tables d = (copy : Actions) × (read_change tables d ≡ Ok copy) × Fits no_rows copy

-- no answer is a whole copy at a commit's id
abbrev pub NoCopies : List Table → List Talk → Type 0
NoCopies tables [] = Unit {0}
NoCopies tables (Reached true id d ∷ ts) = NoCopies tables ts
NoCopies tables (Reached false id d ∷ ts) = (2 ^ 64 ≤ id → IsCopy tables d → ⊥) × NoCopies tables ts
NoCopies tables (Schema d ∷ ts) = NoCopies tables ts
NoCopies tables (Update id d ∷ ts) = NoCopies tables ts
NoCopies tables (Aside event ∷ ts) = NoCopies tables ts
NoCopies tables (Improper ∷ ts) = NoCopies tables ts

abbrev pub TellNoCopies : List Table → List Message → Type 0
TellNoCopies tables messages = NoCopies tables (map talk_of messages)

-- ---- an upstream that has forgotten the id that is asked, of whose history the commits between are left out

-- the id is that of the first i commits, and the rows have the data that they lead to
pub record IsAtCommit (tables : List Table) (start : ℕ) (h : List Commit) (i asked : ℕ) (known : Rows) : Type 0 where
  pub place : IsAt (links_of tables start no_rows h) asked i
  pub same_data : HaveSameData (rows_at no_rows h i) known

-- behind the first j commits stands one of this id, and the updates spell all of its rows
pub record IsCopyAt (tables : List Table) (h : List Commit) (j id : ℕ) (d : Data) : Type 0 where
  pub commit : Commit
  pub found : slice_get h j ≡ Some commit
  pub id_is : commit.id ≡ id
  pub spells : read_change tables d ≡ Ok (database_difference tables no_rows commit.rows)

-- the copy, and then updates with the links behind it
abbrev pub CopyAsked : List Table → ℕ → List Commit → ℕ → List Talk → Type 0
CopyAsked tables start h j [] = Unit {0}
CopyAsked tables start h j (Reached true id d ∷ ts) = ⊥
CopyAsked tables start h j (Reached false id d ∷ ts) = IsCopyAt tables h j id d × LawfulFrom tables (links_of tables start no_rows h) (suc j) ts
CopyAsked tables start h j (Aside event ∷ ts) = CopyAsked tables start h j ts
CopyAsked tables start h j (Schema d ∷ ts) = ⊥
CopyAsked tables start h j (Update id d ∷ ts) = ⊥
CopyAsked tables start h j (Improper ∷ ts) = ⊥

-- the same schema, the copy, and then updates
abbrev pub CopyTalk : Description → ℕ → List Commit → ℕ → List Talk → Type 0
CopyTalk description start h j [] = Unit {0}
CopyTalk description start h j (Schema d ∷ ts) = (says description (read_description d) ≡ true) × CopyAsked description.tables start h j ts
CopyTalk description start h j (Aside event ∷ ts) = CopyTalk description start h j ts
CopyTalk description start h j (Reached known id d ∷ ts) = ⊥
CopyTalk description start h j (Update id d ∷ ts) = ⊥
CopyTalk description start h j (Improper ∷ ts) = ⊥

-- each link fits the rows before it, and leads to the data of the next of these commits, under its id
abbrev pub LeadThrough : List Table → Rows → List Link → List Commit → Type 0
LeadThrough tables rows [] ks = Unit {0}
LeadThrough tables rows (l ∷ ls) [] = ⊥
LeadThrough tables rows (l ∷ ls) (k ∷ ks) =
    (l.id ≡ k.id) × Fits rows l.change × HaveSameData k.rows (after tables rows l.change l.id) × LeadThrough tables (after tables rows l.change l.id) ls ks

-- the links are those of the history without the commits from i to j, from these rows on, which stand behind the first i
pub record AreOfCut (tables : List Table) (h : List Commit) (i j asked : ℕ) (known : Rows) (links : List Link) : Type 0 where
  pub count : ℕ
  pub consecutive : links ≡ take count (links_of tables asked (rows_at no_rows h i) (drop j h))
  pub through : LeadThrough tables known links (drop j h)

-- what an upstream with this history may say, which tells the whole copy behind its first j commits
abbrev pub TellsCopy : Description → ℕ → List Commit → ℕ → List Message → Type 0
TellsCopy description start h j messages = CopyTalk description start h j (map talk_of messages)
