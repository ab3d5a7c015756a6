-- The links that a session makes of a whole copy and what comes behind it are those of the history without the commits between.
use Rattle.std.proofs.Common.{◌≡◌, ◌≢◌, ◌≤◌, ◌^◌, ◌++◌, ℕ, zero, suc, true, false, cond, List, [], ◌∷◌, Some, None, Err, length, take, drop, slice_get, map, refl, sym, ap, subst, ◌∙◌, arith}
use Rattle.serde_json.specs.Data.{Data}
use Rattle.ovs_types.specs.declared.schema.Description.{Description}
use Rattle.ovs_types.specs.declared.schema.Table.{Table}
use Rattle.ovs_rows.specs.After.{Fits, after}
use Rattle.ovs_rows.specs.Change.{IsChangeOf}
use Rattle.ovs_rows.specs.Database.{DatabaseValue}
use Rattle.ovs_rows.specs.DatabaseDifference.{database_difference, HaveSameData}
use Rattle.ovs_rows.specs.Row.{Rows, no_rows, AreRowsOf}
use Rattle.ovs_rows.proofs.Laws.{difference_fits_at, difference_of_tables, no_rows_of, rows_after}
use Rattle.ovs_links.specs.Chains.{head_after, start_of}
use Rattle.ovs_links.specs.History.{Commit, IsNoId, AreDistinct, NoneIsStart, CommitsFrom, IsHistory, links_of, rows_at}
use Rattle.ovs_links.specs.Link.{IsStart}
use Rattle.ovs_links.specs.declared.link.Link.{Link}
use Rattle.ovs_wire.specs.declared.message.Message.{Message}
use Rattle.ovs_upstream.specs.Hearing.{derived, derived_of, heard, hears_at, at_stage, links_after, resuming}
use Rattle.ovs_upstream.specs.Lawful.{IsAt, LawfulFrom}
use Rattle.ovs_upstream.specs.Requests.{monitor_request}
use Rattle.ovs_upstream.specs.Resuming.{AreOfCut, IsAtCommit, IsCopyAt, CopyAsked, CopyTalk, LeadThrough, TellsCopy}
use Rattle.ovs_upstream.specs.Talk.{Talk, Schema, Reached, Update, Aside, Improper, talk_of}
use Rattle.ovs_upstream.specs.declared.error.UpError.TheVariants.{OtherSchema}
use Rattle.ovs_upstream.specs.declared.up_event.UpEvent.TheVariants as event
use Rattle.ovs_upstream.specs.declared.up_session.SyncState.TheVariants.{Opening, Asking, At}
use Rattle.ovs_upstream.proofs.Copies.{difference_same, leads_to_data}
use Rattle.ovs_upstream.proofs.Quiet.{all_quiet}
use Rattle.ovs_upstream.proofs.Resumed.{led_at}
use Rattle.ovs_upstream.proofs.Runs.{AllQuiet, derived_from, front_from, quiet_first}
use Rattle.ovs_upstream.proofs.Streams.{history_line, map_append, start_is_none}

-- ---- commits of a history

none_at : (id : ℕ) (h : List Commit) (j : ℕ) (k : Commit) → IsNoId id h → slice_get h j ≡ Some k → k.id ≢ id
none_at id [] j k none at = absurd (let no : None ≡ Some k = at in cc)
none_at id (c ∷ cs) zero k none at = let same : c ≡ k = cc in subst (λ (x : Commit). x.id ≢ id) same none.0
none_at id (c ∷ cs) (suc j) k none at = none_at id cs j k none.1 at

-- the id of the first i commits isn't that of a later one
ids_apart : (tables : List Table) (start : ℕ) (rows : Rows) (h : List Commit) (i j : ℕ) (k : Commit) → IsNoId start h → AreDistinct h → i ≤ j → slice_get h j ≡ Some k
    → k.id ≢ head_after start (take i (links_of tables start rows h))
ids_apart tables start rows h zero j k none distinct le at = none_at start h j k none at
ids_apart tables start rows [] (suc i) j k none distinct le at = absurd (let no : None ≡ Some k = at in cc)
ids_apart tables start rows (c ∷ cs) (suc i) zero k none distinct le at = absurd (omega arith)
ids_apart tables start rows (c ∷ cs) (suc i) (suc j) k none distinct le at = ids_apart tables c.id c.rows cs i j k distinct.0 distinct.1 (omega arith) at

past_at : (h : List Commit) (j : ℕ) (k : Commit) → NoneIsStart h → slice_get h j ≡ Some k → 2 ^ 64 ≤ k.id
past_at [] j k past at = absurd (let no : None ≡ Some k = at in cc)
past_at (c ∷ cs) zero k past at = let same : c ≡ k = cc in subst (λ (x : Commit). 2 ^ 64 ≤ x.id) same past.0
past_at (c ∷ cs) (suc j) k past at = past_at cs j k past.1 at

rows_of_commit : (tables : List Table) (rows : Rows) (h : List Commit) (j : ℕ) (k : Commit) → CommitsFrom tables rows h → slice_get h j ≡ Some k → AreRowsOf tables k.rows
rows_of_commit tables rows [] j k from at = absurd (let no : None ≡ Some k = at in cc)
rows_of_commit tables rows (c ∷ cs) zero k from at = let same : c ≡ k = cc in subst (λ (x : Commit). AreRowsOf tables x.rows) same from.0.after
rows_of_commit tables rows (c ∷ cs) (suc j) k from at = rows_of_commit tables c.rows cs j k from.1 at

-- the commits from one on, and the links behind it
drop_commit : (h : List Commit) (j : ℕ) (k : Commit) → slice_get h j ≡ Some k → drop j h ≡ k ∷ drop (suc j) h
drop_commit [] j k at = absurd (let no : None ≡ Some k = at in cc)
drop_commit (c ∷ cs) zero k at = let same : c ≡ k = cc in ap (λ x. x ∷ cs) same
drop_commit (c ∷ cs) (suc j) k at = drop_commit cs j k at

drop_links : (tables : List Table) (start : ℕ) (rows : Rows) (h : List Commit) (j : ℕ) (k : Commit) → slice_get h j ≡ Some k
    → drop (suc j) (links_of tables start rows h) ≡ links_of tables k.id k.rows (drop (suc j) h)
drop_links tables start rows [] j k at = absurd (let no : None ≡ Some k = at in cc)
drop_links tables start rows (c ∷ cs) zero k at = let same : c ≡ k = cc in ap (λ (x : Commit). links_of tables x.id x.rows cs) same
drop_links tables start rows (c ∷ cs) (suc j) k at = drop_links tables c.id c.rows cs j k at

-- the first j + 1 links lead to its id
place_of : (tables : List Table) (start : ℕ) (rows : Rows) (h : List Commit) (j : ℕ) (k : Commit) → slice_get h j ≡ Some k
    → (suc j ≤ length (links_of tables start rows h)) × (head_after start (take (suc j) (links_of tables start rows h)) ≡ k.id)
place_of tables start rows [] j k at = absurd (let no : None ≡ Some k = at in cc)
place_of tables start rows (c ∷ cs) zero k at = let same : c ≡ k = cc in (omega arith, ap (λ (x : Commit). x.id) same)
place_of tables start rows (c ∷ cs) (suc j) k at = let t = place_of tables c.id c.rows cs j k at in (omega (arith, t.0), t.1)

-- a history with a commit begins where it says
begins_at : (tables : List Table) (start : ℕ) (h : List Commit) (j : ℕ) (k : Commit) → slice_get h j ≡ Some k → start_of (links_of tables start no_rows h) ≡ start
begins_at tables start [] j k at = absurd (let no : None ≡ Some k = at in cc)
begins_at tables start (c ∷ cs) j k at = refl

-- ---- the data that links lead to

-- each of these commits leaves rows of these tables
abbrev AreAllRows : List Table → List Commit → Type 0
AreAllRows tables [] = Unit {0}
AreAllRows tables (c ∷ cs) = AreRowsOf tables c.rows × AreAllRows tables cs

all_rows : (tables : List Table) (rows : Rows) (h : List Commit) (j : ℕ) → CommitsFrom tables rows h → AreAllRows tables (drop j h)
all_rows tables rows [] zero from = tt
all_rows tables rows [] (suc j) from = tt
all_rows tables rows (c ∷ cs) zero from = (from.0.after, all_rows tables c.rows cs zero from.1)
all_rows tables rows (c ∷ cs) (suc j) from = all_rows tables c.rows cs j from.1

-- from rows with the same data the links lead to the data of each commit
lead_through : (tables : List Table) (prev n : ℕ) (old rows : Rows) (ks : List Commit) → HaveSameData old rows → AreRowsOf tables rows → AreAllRows tables ks
    → LeadThrough tables rows (take n (links_of tables prev old ks)) ks
lead_through tables prev zero old rows ks same of all = tt
lead_through tables prev (suc n) old rows [] same of all = tt
lead_through tables prev (suc n) old rows (k ∷ ks) same of all =
    let change = database_difference tables old k.rows in
    let as_known : database_difference tables rows k.rows ≡ change =
    difference_same tables rows old k.rows k.rows (λ p. same p) (λ p. refl) in
    let leads : HaveSameData k.rows (after tables rows change k.id) =
    subst (λ c. HaveSameData k.rows (after tables rows c k.id)) as_known (leads_to_data tables rows k.rows k.id of all.0) in
    let change_of : IsChangeOf tables change = subst (IsChangeOf tables) as_known (difference_of_tables tables rows k.rows of all.0) in (
      refl,
      subst (Fits rows) as_known (difference_fits_at tables rows k.rows),
      leads,
      lead_through tables k.id n k.rows (after tables rows change k.id) ks leads (rows_after tables rows change k.id of change_of) all.1,
    )

-- ---- what is said

module _ (known : DatabaseValue) (h : List Commit) (start i j asked : ℕ) (rows : AreRowsOf known.schema.description.tables known.rows) (below : IsStart start)
    (history : IsHistory known.schema.description.tables no_rows h) (le : i ≤ j) (at : IsAtCommit known.schema.description.tables start h i asked known.rows) where
  abbrev tables : List Table
  tables = known.schema.description.tables

  abbrev Cut : List Link → Type 0
  Cut links = (n : ℕ) × (links ≡ take n (links_of tables asked (rows_at no_rows h i) (drop j h)))

  copy_then : (id : ℕ) (d : Data) (ts : List Talk) → AllQuiet ts → IsCopyAt tables h j id d → LawfulFrom tables (links_of tables start no_rows h) (suc j) ts
      → Cut (links_after (hears_at Asking (resuming known asked) (Reached false id d)) (λ stage. derived_of (at_stage (resuming known asked) stage) ts))
  copy_then id d ts quiet copy lawful =
      let k = copy.commit in
      let ls = links_of tables start no_rows h in
      let begins = begins_at tables start h j k copy.found in
      let place = place_of tables start no_rows h j k copy.found in
      let there : IsAt ls id (suc j) = subst (λ (n : ℕ). IsAt ls n (suc j)) copy.id_is (place.0, ap (λ (n : ℕ). head_after n (take (suc j) ls)) begins ∙ place.1) in
      let apart : id ≢ asked = subst (λ (n : ℕ). n ≢ asked) copy.id_is (subst (λ (n : ℕ). k.id ≢ n) (ap (λ (n : ℕ). head_after n (take i ls)) (sym begins) ∙ at.place.1)
      (ids_apart tables start no_rows h i j k (start_is_none start below h history.no_start) history.distinct le copy.found)) in
      let large : 2 ^ 64 ≤ id = subst (λ (n : ℕ). 2 ^ 64 ≤ n) copy.id_is (past_at h j k history.no_start copy.found) in
      let of_commit = rows_of_commit tables no_rows h j k history.commits copy.found in
      let change = database_difference tables no_rows k.rows in
      let whole = after tables no_rows change id in
      let hears = led_at known asked id d change copy.spells (difference_fits_at tables no_rows k.rows) large apart in
      let same : database_difference tables known.rows whole ≡ database_difference tables (rows_at no_rows h i) k.rows =
      sym (difference_same tables (rows_at no_rows h i) known.rows k.rows whole (λ p. sym (at.same_data p)) (λ p. sym (leads_to_data tables no_rows k.rows id (no_rows_of tables) of_commit p))) in
      let later = derived_from (resuming known asked) ls id (suc j) ts (history_line tables start h below history) quiet there lawful in (
        suc later.0,
        ap (λ r. links_after r (λ stage. derived_of (at_stage (resuming known asked) stage) ts)) hears
            ∙ ap (λ c. record { prev = asked; id = id; change = c } ∷ derived_of (at_stage (resuming known asked) (At id)) ts) same
            ∙ ap (λ rest. record { prev = asked; id = id; change = database_difference tables (rows_at no_rows h i) k.rows } ∷ rest) (later.1 ∙ ap (take later.0) (drop_links tables start no_rows h j k copy.found))
            ∙ ap (λ (n : ℕ). record { prev = asked; id = n; change = database_difference tables (rows_at no_rows h i) k.rows } ∷ take later.0 (links_of tables k.id k.rows (drop (suc j) h))) (sym copy.id_is)
            ∙ ap (λ (cs : List Commit). take (suc later.0) (links_of tables asked (rows_at no_rows h i) cs)) (sym (drop_commit h j k copy.found)),
      )

  asked_cut : (ts : List Talk) → AllQuiet ts → CopyAsked tables start h j ts → Cut (derived_of (at_stage (resuming known asked) Asking) ts)
  asked_cut [] quiet says = (0, refl)
  asked_cut (Aside e ∷ ts) quiet says = let t = asked_cut ts quiet.1 says in (t.0, quiet_first (at_stage (resuming known asked) Asking) e ts quiet.0 ∙ t.1)
  asked_cut (Reached true id d ∷ ts) quiet says = absurd says
  asked_cut (Reached false id d ∷ ts) quiet says = copy_then id d ts quiet.1 says.0 says.1
  asked_cut (Schema d ∷ ts) quiet says = absurd says
  asked_cut (Update id d ∷ ts) quiet says = absurd says
  asked_cut (Improper ∷ ts) quiet says = absurd says

  talk_cut : (ts : List Talk) → AllQuiet ts → CopyTalk known.schema.description start h j ts → Cut (derived_of (at_stage (resuming known asked) Opening) ts)
  talk_cut [] quiet says = (0, refl)
  talk_cut (Aside e ∷ ts) quiet says = let t = talk_cut ts quiet.1 says in (t.0, quiet_first (at_stage (resuming known asked) Opening) e ts quiet.0 ∙ t.1)
  talk_cut (Schema d ∷ ts) quiet says =
      let t = asked_cut ts quiet.1 says.1 in
      (t.0, ap (λ b. links_after (cond b (heard Asking (event.Send (monitor_request known.schema asked))) (Err OtherSchema)) (λ stage. derived_of (at_stage (resuming known asked) stage) ts)) says.0 ∙ t.1)
  talk_cut (Reached k id d ∷ ts) quiet says = absurd says
  talk_cut (Update id d ∷ ts) quiet says = absurd says
  talk_cut (Improper ∷ ts) quiet says = absurd says

-- what begins so
front_asked : (among : List Table) (start : ℕ) (h : List Commit) (j : ℕ) (xs ys : List Talk) → CopyAsked among start h j (xs ++ ys) → CopyAsked among start h j xs
front_asked among start h j [] ys says = tt
front_asked among start h j (Aside e ∷ xs) ys says = front_asked among start h j xs ys says
front_asked among start h j (Reached true id d ∷ xs) ys says = absurd says
front_asked among start h j (Reached false id d ∷ xs) ys says = (says.0, front_from among (links_of among start no_rows h) (suc j) xs ys says.1)
front_asked among start h j (Schema d ∷ xs) ys says = absurd says
front_asked among start h j (Update id d ∷ xs) ys says = absurd says
front_asked among start h j (Improper ∷ xs) ys says = absurd says

front_talk : (description : Description) (start : ℕ) (h : List Commit) (j : ℕ) (xs ys : List Talk) → CopyTalk description start h j (xs ++ ys) → CopyTalk description start h j xs
front_talk description start h j [] ys says = tt
front_talk description start h j (Aside e ∷ xs) ys says = front_talk description start h j xs ys says
front_talk description start h j (Schema d ∷ xs) ys says = (says.0, front_asked description.tables start h j xs ys says.1)
front_talk description start h j (Reached known id d ∷ xs) ys says = absurd says
front_talk description start h j (Update id d ∷ xs) ys says = absurd says
front_talk description start h j (Improper ∷ xs) ys says = absurd says

pub copy_cuts : (known : DatabaseValue) (h : List Commit) (start i j asked : ℕ) (before rest : List Message) → AreRowsOf known.schema.description.tables known.rows → IsStart start
    → IsHistory known.schema.description.tables no_rows h → i ≤ j → IsAtCommit known.schema.description.tables start h i asked known.rows
    → TellsCopy known.schema.description start h j (before ++ rest)
    → AreOfCut known.schema.description.tables h i j asked known.rows (derived (resuming known asked) before)
copy_cuts known h start i j asked before rest rows below history le at tells =
    let tables = known.schema.description.tables in
    let part = talk_cut known h start i j asked rows below history le at (map talk_of before) (all_quiet before)
    (front_talk known.schema.description start h j (map talk_of before) (map talk_of rest)
    (subst (λ (ts : List Talk). CopyTalk known.schema.description start h j ts) (map_append before rest) tells)) in
    let through = lead_through tables asked part.0 (rows_at no_rows h i) known.rows (drop j h) at.same_data rows (all_rows tables no_rows h j history.commits) in
    record {
      count = part.0;
      consecutive = part.1;
      through = subst (λ (ls : List Link). LeadThrough tables known.rows ls (drop j h)) (sym part.1) through;
    }
