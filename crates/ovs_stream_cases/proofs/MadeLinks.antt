-- Links that lead on from each other are those of a history.
use Rattle.std.proofs.Common.{◌≡◌, ◌≢◌, ◌==◌, ◌||◌, ◌≤◌, ◌<◌, ◌^◌, ℕ, Bool, true, false, ◌+◌, List, [], ◌∷◌, Option, None, Some, suc, length, drop, get_or, drop-cons, add-one, refl, sym, ◌∙◌, ap, subst, arith}
use Rattle.std.proofs.lemmas.Bool.{eqb-false}
use Rattle.std.specs.List.{list_any}
use Rattle.std.specs.FinMap.{get}
use Rattle.ovs_types.specs.declared.schema.NamedColumn.{NamedColumn}
use Rattle.ovs_types.specs.declared.schema.Table.{Table}
use Rattle.ovs_rows.specs.declared.row.Row.{Row}
use Rattle.ovs_rows.specs.declared.change.Action.{Action}
use Rattle.ovs_rows.specs.declared.change.Action.TheVariants.{Insert, Delete, Modify}
use Rattle.ovs_rows.specs.Row.{Rows, no_rows, AreRowsOf, columns_at}
use Rattle.ovs_rows.specs.Change.{Actions, IsChangeOf}
use Rattle.ovs_rows.specs.After.{after, row_after, edited}
use Rattle.ovs_rows.specs.DatabaseDifference.{database_difference, IsActionBetween, IsDatabaseDifference, IsVersioned, IsCommit}
use Rattle.ovs_rows.proofs.Laws.{get-after, rows_after, difference_is}
use Rattle.ovs_links.specs.History.{Commit, IsNoId, AreDistinct, NoneIsStart, CommitsFrom, IsHistory, links_of}
use Rattle.ovs_links.specs.declared.link.Link.{Link}
use Rattle.ovs_stream_cases.specs.Made.{rows_behind, IsNext, AreMadeFrom, commits_of, IsMade}

-- ---- tests

or_false : (a b : Bool) → (a || b) ≡ false → (a ≡ false) × (b ≡ false)
or_false true b e = absurd (let clash : true ≡ false = e in cc)
or_false false b e = (refl, e)

not_equal : (m n : ℕ) → (m == n) ≡ false → m ≡ n → ⊥
not_equal m n differ same = eqb-false m n differ same

-- ---- what a change leads to is a commit, where the change is the difference

-- a row that the change makes has the id, and one whose columns stay is none that it makes
versioned : (columns : List NamedColumn) (id : ℕ) (before now : Option Row) (action : Option Action) → now ≡ row_after columns id action before
    → IsActionBetween columns before now action → IsVersioned id before now
versioned columns id before None action e i = tt
versioned columns id None (Some new) None e i = absurd cc
versioned columns id None (Some new) (Some (Insert made)) e i =
    let same : new ≡ record { version = id; columns = made } = cc in ap (λ (r : Row). r.version) same
versioned columns id None (Some new) (Some Delete) e i = absurd cc
versioned columns id None (Some new) (Some (Modify edits)) e i = absurd cc
versioned columns id (Some old) (Some new) None e i =
    let same : new ≡ old = cc in (λ kept. ap (λ (r : Row). r.version) same, λ differ. absurd (differ i))
versioned columns id (Some old) (Some new) (Some (Insert made)) e i = absurd i
versioned columns id (Some old) (Some new) (Some Delete) e i = absurd i
versioned columns id (Some old) (Some new) (Some (Modify edits)) e i =
    let same : new ≡ record { version = id; columns = edited columns edits old.columns } = cc in
    (λ kept. absurd (i.0 kept), λ differ. ap (λ (r : Row). r.version) same)

pub commits_difference : (tables : List Table) (rows : Rows) (change : Actions) (id : ℕ) → AreRowsOf tables rows → IsChangeOf tables change
    → change ≡ database_difference tables rows (after tables rows change id) → IsCommit tables rows (after tables rows change id) id
commits_difference tables rows change id of_tables is_change same =
    let behind = after tables rows change id in
    let are_rows : AreRowsOf tables behind = rows_after tables rows change id of_tables is_change in
    let difference : IsDatabaseDifference tables rows behind change =
    subst (λ (c : Actions). IsDatabaseDifference tables rows behind c) (sym same) (difference_is tables rows behind of_tables are_rows) in
    record {
      before = of_tables;
      after = are_rows;
      versions = λ p. versioned (columns_at tables p.table) id (get rows p) (get behind p) (get change p) (get-after tables rows change id p) (difference p);
    }

-- the link leads on, where all of that was looked at
pub next_by : (tables : List Table) (head : ℕ) (rows now : Rows) (l : Link) (later : List Link) (change : Actions) → l.prev ≡ head → 2 ^ 64 ≤ l.id
    → list_any (λ m. m.id == l.id) later ≡ false → AreRowsOf tables rows → IsChangeOf tables l.change → now ≡ rows_behind tables rows l
    → change ≡ database_difference tables rows now → change ≡ l.change → IsNext tables head rows l later
next_by tables head rows now l later change prev past alone of_tables is_change moved made same =
    let difference : l.change ≡ database_difference tables rows (rows_behind tables rows l) =
    sym same ∙ made ∙ ap (λ (r : Rows). database_difference tables rows r) moved in
    record {
      prev = prev;
      past = past;
      alone = alone;
      commit = commits_difference tables rows l.change l.id of_tables is_change difference;
      difference = difference;
    }

-- ---- a history

no_id : (tables : List Table) (rows : Rows) (ls : List Link) (id : ℕ) → list_any (λ m. m.id == id) ls ≡ false → IsNoId id (commits_of tables rows ls)
no_id tables rows [] id none = tt
no_id tables rows (l ∷ ls) id none =
    let parts = or_false (l.id == id) (list_any (λ m. m.id == id) ls) none in
    (λ same. not_equal l.id id parts.0 same, no_id tables (rows_behind tables rows l) ls id parts.1)

distinct_ids : (tables : List Table) (head : ℕ) (rows : Rows) (ls : List Link) → AreMadeFrom tables head rows ls → AreDistinct (commits_of tables rows ls)
distinct_ids tables head rows [] made = tt
distinct_ids tables head rows (l ∷ ls) made =
    (no_id tables (rows_behind tables rows l) ls l.id made.0.alone, distinct_ids tables l.id (rows_behind tables rows l) ls made.1)

no_starts : (tables : List Table) (head : ℕ) (rows : Rows) (ls : List Link) → AreMadeFrom tables head rows ls → NoneIsStart (commits_of tables rows ls)
no_starts tables head rows [] made = tt
no_starts tables head rows (l ∷ ls) made = (made.0.past, no_starts tables l.id (rows_behind tables rows l) ls made.1)

commits_from : (tables : List Table) (head : ℕ) (rows : Rows) (ls : List Link) → AreMadeFrom tables head rows ls → CommitsFrom tables rows (commits_of tables rows ls)
commits_from tables head rows [] made = tt
commits_from tables head rows (l ∷ ls) made = (made.0.commit, commits_from tables l.id (rows_behind tables rows l) ls made.1)

its_links : (tables : List Table) (head : ℕ) (rows : Rows) (ls : List Link) → AreMadeFrom tables head rows ls → ls ≡ links_of tables head rows (commits_of tables rows ls)
its_links tables head rows [] made = refl
its_links tables head rows (l ∷ ls) made =
    λ i. record { prev = made.0.prev i; id = l.id; change = made.0.difference i } ∷ its_links tables l.id (rows_behind tables rows l) ls made.1 i

pub made_history : (tables : List Table) (ls : List Link) → AreMadeFrom tables 0 no_rows ls → IsMade tables ls
made_history tables ls made = record {
  history = record { distinct = distinct_ids tables 0 no_rows ls made; no_start = no_starts tables 0 no_rows ls made; commits = commits_from tables 0 no_rows ls made };
  links = its_links tables 0 no_rows ls made;
}

-- ---- the loop

here_next : (ls : List Link) (k : ℕ) (l : Link) → k < length ls → l ≡ get_or ls k l → drop k ls ≡ l ∷ drop (k + 1) ls
here_next ls k l below here = rw add-one (drop-cons ls k l below ∙ ap (λ (m : Link). m ∷ drop (suc k) ls) (sym here))

-- where what is left leads on, all do
pub made_next : (tables : List Table) (head : ℕ) (rows now : Rows) (ls : List Link) (k : ℕ) (l : Link) (Whole : Type 0) → k < length ls → l ≡ get_or ls k l
    → IsNext tables head rows l (drop (k + 1) ls) → now ≡ rows_behind tables rows l → (AreMadeFrom tables head rows (drop k ls) → Whole)
    → AreMadeFrom tables l.id now (drop (k + 1) ls) → Whole
made_next tables head rows now ls k l Whole below here next moved whole rest =
    whole (subst (λ (ms : List Link). AreMadeFrom tables head rows ms) (sym (here_next ls k l below here))
    (next, subst (λ (r : Rows). AreMadeFrom tables l.id r (drop (k + 1) ls)) moved rest))
