-- The history of a source, with one more commit, and with another epoch.
use Rattle.std.proofs.Common.{◌≡◌, ◌≢◌, ℕ, suc, ◌≤◌, ◌<◌, ◌^◌, ◌⊎◌, inl, inr, List, [], ◌∷◌, ◌++◌, length, None, Some, refl, sym, ◌∙◌, ap, subst, arith, ⊎_elim}
use Rattle.std.proofs.lemmas.Bool.{cases_lt}
use Rattle.std.specs.Prelude.{◌↔◌, Bool, true, false, IsTrue, Ok}
use Rattle.std.specs.Ordering.{nat_cmp}
use Rattle.std.specs.FinMap.{FinMap, insert, empty, get-empty}
use Rattle.ovs_types.specs.Schema.{SchemaValue}
use Rattle.ovs_types.specs.declared.schema.Table.{Table}
use Rattle.ovs_rows.specs.Row.{Rows, AreRowsOf, no_rows}
use Rattle.ovs_rows.specs.Change.{Actions}
use Rattle.ovs_rows.specs.After.{after}
use Rattle.ovs_rows.specs.DatabaseDifference.{database_difference, IsCommit}
use Rattle.ovs_rows.proofs.Laws.{difference_after, difference_fits, no_rows_of}
use Rattle.ovs_rows.proofs.NoDifference.{nothing_exactly}
use Rattle.ovs_links.specs.Link.{IsStart}
use Rattle.ovs_links.specs.Sets.{Holds, Among}
use Rattle.ovs_links.specs.Chains.{start_of, head_after, rows_after}
use Rattle.ovs_links.specs.Epochs.{Opens, IsOpening, Epoch, CarriesOn, EpochsFrom, EpochHistory, IsEpochHistory, IsEpochIn, commits_in, epochs_of, links_within, links_in, last_rows, latest_from, latest_of, committed, start_now, rows_now}
use Rattle.ovs_links.specs.History.{Commit, IsNoId, AreDistinct, CommitsFrom, links_of, rows_at}
use Rattle.ovs_links.specs.Store.{Stored, tables_of, head_of, rows_of, start_in}
use Rattle.ovs_links.specs.Answers.{SettlesAs, NonePrev, after_append, AreOfOneSource}
use Rattle.ovs_links.specs.declared.link.Link.{Link}
use Rattle.ovs_links.specs.declared.answer.Settled.TheVariants.{Done}
use Rattle.ovs_links.proofs.MapLemmas.{insert_at, insert_other}
use Rattle.ovs_links.proofs.TakeLemmas.{held_before}
use Rattle.ovs_links.proofs.HistoryLemmas.{start_is_no_id}
use Rattle.ovs_links.proofs.GrowLemmas.{head_from_start}
use Rattle.ovs_links.proofs.EpochLemmas.{Rising, rising_of, stays, first_in, IsGoodEpoch, epoch_good, Among-left, Among-right}
use Rattle.ovs_links.proofs.CommitLemmas.{history_committed, committed_links, latest_committed, links_push, no_commit, new_link}
use Rattle.ovs_source.specs.Commits.{IsSourceOf, IsSource, IsContinued, IsTaken, link_to, LeadsBy}
use Rattle.ovs_source.proofs.LinksInOrder.{committed_in_order}

-- ---- lists of links

among_within : (ts : List Table) (es : List Epoch) (e : Epoch) (l : Link) → IsEpochIn es e → Among (links_within ts e) l → Among (links_in ts es) l
among_within ts [] e l a b = absurd a
among_within ts (d ∷ ds) e l (inl s) b = Among-left (links_within ts d) (links_in ts ds) l (subst (λ (x : Epoch). Among (links_within ts x) l) s b)
among_within ts (d ∷ ds) e l (inr a) b = Among-right (links_within ts d) (links_in ts ds) l (among_within ts ds e l a b)

-- the last id is where they begin, or that of one of them
head_from : (ts : List Table) (start : ℕ) (rows : Rows) (ks : List Commit)
    → (head_after start (links_of ts start rows ks) ≡ start) ⊎ ((x : Link) × Among (links_of ts start rows ks) x × (x.id ≡ head_after start (links_of ts start rows ks)))
head_from ts start rows [] = inl refl
head_from ts start rows (k ∷ ks) =
    ⊎_elim (λ (e : head_after k.id (links_of ts k.id k.rows ks) ≡ k.id). inr (record { prev = start; id = k.id; change = database_difference ts rows k.rows }, inl refl, sym e))
    (λ (t : (x : Link) × Among (links_of ts k.id k.rows ks) x × (x.id ≡ head_after k.id (links_of ts k.id k.rows ks))). inr (t.0, inr t.1, t.2)) (head_from ts k.id k.rows ks)

head_past : (ts : List Table) (i j : ℕ) (rows : Rows) (ks : List Commit) → j ≢ i → IsNoId i ks → head_after j (links_of ts j rows ks) ≡ i → ⊥
head_past ts i j rows [] d n e = d e
head_past ts i j rows (k ∷ ks) d n e = head_past ts i k.id k.rows ks n.0 n.1 e

-- no link follows the last commit
no_next : (ts : List Table) (start : ℕ) (rows : Rows) (ks : List Commit) (l : Link) → IsNoId start ks → AreDistinct ks → Among (links_of ts start rows ks) l
    → l.prev ≡ head_after start (links_of ts start rows ks) → ⊥
no_next ts start rows [] l f d a e = a
no_next ts start rows (k ∷ ks) l f d (inl s) e = head_past ts start k.id k.rows ks f.0 f.1 (sym e ∙ ap (λ (x : Link). x.prev) s)
no_next ts start rows (k ∷ ks) l f d (inr a) e = no_next ts k.id k.rows ks l d.0 d.1 a e

rows_of_links : (ts : List Table) (start : ℕ) (rows : Rows) (ks : List Commit) → CommitsFrom ts rows ks → rows_after ts rows (links_of ts start rows ks) ≡ rows_at rows ks (length ks)
rows_of_links ts start rows [] v = refl
rows_of_links ts start rows (k ∷ ks) v =
    let commit = v.0 in
    ap (λ (x : Rows). rows_after ts x (links_of ts k.id k.rows ks)) (difference_after ts rows k.rows k.id commit.before commit.after commit) ∙ rows_of_links ts k.id k.rows ks v.1

rows_of_tables : (ts : List Table) (rows : Rows) (ks : List Commit) → AreRowsOf ts rows → CommitsFrom ts rows ks → AreRowsOf ts (rows_at rows ks (length ks))
rows_of_tables ts rows [] of v = of
rows_of_tables ts rows (k ∷ ks) of v = let commit = v.0 in rows_of_tables ts k.rows ks commit.after v.1

-- ---- ids

-- an id that is no start is taken exactly where a held link has it
pub taken_exactly : (s : Stored) (id : ℕ) (found : Bool) → ¬ (IsStart id) → (found ≡ true → (l : Link) × Holds s.links l × (l.id ≡ id))
    → (found ≡ false → (l : Link) → Holds s.links l → l.id ≢ id) → IsTrue found ↔ IsTaken s id
taken_exactly s id true past some none = (λ t. inr (some refl), λ taken. refl)
taken_exactly s id false past some none =
    (λ t. absurd (let clash : false ≡ true = t in cc), λ taken. ⊎_elim (λ (start : IsStart id). absurd (past start)) (λ (t : (l : Link) × Holds s.links l × (l.id ≡ id)). absurd (none refl t.0 t.1 t.2)) taken)

-- ---- the latest epoch

latest_among : (d : Epoch) (ds : List Epoch) → IsEpochIn (d ∷ ds) (latest_from d ds)
latest_among d [] = inl refl
latest_among d (e ∷ es) = inr (latest_among e es)

latest_above : (ts : List Table) (floor : ℕ) (d : Epoch) (ds : List Epoch) → Rising ts floor (d ∷ ds) → floor ≤ (latest_from d ds).start
latest_above ts floor d [] r = r.0
latest_above ts floor d (e ∷ es) r = let above = latest_above ts (suc d.start) e es r.3 in let low = r.0 in omega (arith, above, low)

latest_is_greatest : (ts : List Table) (floor : ℕ) (d : Epoch) (ds : List Epoch) (e : Epoch) → Rising ts floor (d ∷ ds) → IsEpochIn (d ∷ ds) e → e.start ≤ (latest_from d ds).start
latest_is_greatest ts floor d [] e r (inl s) = let at = ap (λ (x : Epoch). x.start) s in omega (arith, at)
latest_is_greatest ts floor d [] e r (inr a) = absurd a
latest_is_greatest ts floor d (x ∷ xs) e r (inl s) =
    let at = ap (λ (y : Epoch). y.start) s in let above = latest_above ts (suc d.start) x xs r.3 in omega (arith, at, above)
latest_is_greatest ts floor d (x ∷ xs) e r (inr a) = latest_is_greatest ts (suc d.start) x xs e r.3 a

-- it is the one from 0, or has a commit
IsBegun : Epoch → Type 0
IsBegun e = (e.start ≡ 0) ⊎ ((k : Commit) × (ks : List Commit) × (e.commits ≡ k ∷ ks))

carried : (rows : Rows) (ks : List Commit) → CarriesOn rows ks → (k : Commit) × (more : List Commit) × (ks ≡ k ∷ more)
carried rows [] c = absurd c
carried rows (k ∷ ks) c = (k, ks, refl)

latest_carried : (ts : List Table) (start : ℕ) (rows : Rows) (d : Epoch) (ds : List Epoch) → EpochsFrom ts start rows (d ∷ ds)
    → (k : Commit) × (ks : List Commit) × ((latest_from d ds).commits ≡ k ∷ ks)
latest_carried ts start rows d [] r = carried rows d.commits r.3
latest_carried ts start rows d (e ∷ es) r = latest_carried ts d.start (last_rows d.commits) e es r.4

pub start_now_is : (d : Epoch) (ds : List Epoch) → start_now d.start ds ≡ (latest_from d ds).start
start_now_is d [] = refl
start_now_is d (e ∷ es) = start_now_is e es

pub rows_now_is : (d : Epoch) (ds : List Epoch) → rows_now (last_rows d.commits) ds ≡ last_rows (latest_from d ds).commits
rows_now_is d [] = refl
rows_now_is d (e ∷ es) = rows_now_is e es

-- ---- a source

module _ (s : Stored) (h : EpochHistory) (of : IsSourceOf s h) where
  abbrev tables : List Table
  tables = tables_of s

  abbrev latest : Epoch
  latest = latest_of h

  abbrev first : Epoch
  first = record { start = 0; commits = h.first }

  rising : Rising tables 0 (epochs_of h)
  rising = rising_of tables h of.history

  among : IsEpochIn (epochs_of h) latest
  among = latest_among first h.later

  is_good : IsGoodEpoch tables 0 latest
  is_good = epoch_good tables h latest of.history among

  begun : IsBegun latest
  unfolding IsBegun
  begun = by h.later of.history.later
    where
      by : (ds : List Epoch) → EpochsFrom tables 0 (last_rows h.first) ds → ((latest_from first ds).start ≡ 0) ⊎ ((k : Commit) × (ks : List Commit) × ((latest_from first ds).commits ≡ k ∷ ks))
      by [] r = inl refl
      by (d ∷ ds) r = inr (latest_carried tables 0 (last_rows h.first) d ds r)

  pub start_is : start_in s ≡ latest.start
  unfolding IsBegun
  start_is = ap start_of of.folded ∙ ⊎_elim from_zero from_first begun
    where
      any : (start : ℕ) (ks : List Commit) → start ≡ 0 → start_of (links_of tables start no_rows ks) ≡ start
      any start [] e = sym e
      any start (k ∷ ks) e = refl

      from_zero : latest.start ≡ 0 → start_of (links_within tables latest) ≡ latest.start
      from_zero e = any latest.start latest.commits e

      from_first : ((k : Commit) × (ks : List Commit) × (latest.commits ≡ k ∷ ks)) → start_of (links_within tables latest) ≡ latest.start
      from_first t = ap (λ (ks : List Commit). start_of (links_of tables latest.start no_rows ks)) t.2

  pub rows_are : rows_of s ≡ last_rows latest.commits
  rows_are = ap (rows_after tables no_rows) of.folded ∙ rows_of_links tables latest.start no_rows latest.commits is_good.history.commits

  pub rows_of_its_tables : AreRowsOf tables (rows_of s)
  rows_of_its_tables =
      subst (AreRowsOf tables) (sym rows_are) (rows_of_tables tables no_rows latest.commits (no_rows_of tables) is_good.history.commits)

  pub head_is : head_of s ≡ head_after latest.start (links_within tables latest)
  head_is =
      sym (head_from_start s.folded)
      ∙ ap (λ (ls : List Link). head_after (start_of ls) ls) of.folded
      ∙ ap (λ (i : ℕ). head_after i (links_within tables latest)) (sym (ap start_of of.folded) ∙ start_is)

  -- no held link follows the head
  pub none_next : (l : Link) → Holds s.links l → l.prev ≢ head_of s
  none_next l held e =
      let at : l.prev ≡ head_after latest.start (links_within tables latest) = e ∙ head_is in
      let here = stays tables 0 (epochs_of h) rising of.history.distinct latest among (head_after latest.start (links_within tables latest)) l ((of.held l).0 held)
      (head_from tables latest.start no_rows latest.commits) at in
      no_next tables latest.start no_rows latest.commits l (start_is_no_id latest.start is_good.below latest.commits is_good.history.no_start) is_good.history.distinct here at

  -- no held link comes from a start above that of the latest epoch
  pub below_latest : (l : Link) → Holds s.links l → IsStart l.prev → l.prev ≤ start_in s
  below_latest l held start =
      let t = first_in tables 0 (epochs_of h) rising l ((of.held l).0 held) start in
      let most = latest_is_greatest tables 0 first h.later t.0 rising t.1 in
      let at = t.3 in
      let is = start_is in
      omega (arith, most, at, is)

  opens_first : ((k : Commit) × (ks : List Commit) × (latest.commits ≡ k ∷ ks)) → (l : Link) × Opens (Holds s.links) l × (l.prev ≡ latest.start)
  opens_first t =
      let k = t.0 in
      let l : Link = record { prev = latest.start; id = k.id; change = database_difference tables no_rows k.rows } in
      let commits : CommitsFrom tables no_rows (k ∷ t.1) = subst (CommitsFrom tables no_rows) t.2 is_good.history.commits in
      let commit = commits.0 in
      let inside : Among (links_within tables latest) l = subst (λ (ks : List Commit). Among (links_of tables latest.start no_rows ks) l) (sym t.2) (inl refl) in (
        l,
        record {
          member = (of.held l).1 (among_within tables (epochs_of h) latest l among inside);
          from_start = is_good.below;
          fits_none = difference_fits tables no_rows k.rows commit.before commit.after;
        },
        refl,
      )

  opening : IsOpening (Holds s.links) (start_in s)
  unfolding IsBegun
  opening = record {
    found = ⊎_elim (λ (e : latest.start ≡ 0). inl (start_is ∙ e))
        (λ (t : (k : Commit) × (ks : List Commit) × (latest.commits ≡ k ∷ ks)). let o = opens_first t in inr (o.0, o.1, o.2 ∙ sym start_is)) begun;
    greatest = λ l o. below_latest l o.member o.from_start;
  }

  pub source_done : SettlesAs s Done
  source_done = record { opening = opening; ends = none_next }

  -- ---- a new id

  module _ (id : ℕ) (free : ¬ (IsTaken s id)) where
    pub new_id : IsNoId id (commits_in (epochs_of h))
    new_id = no_commit tables (epochs_of h) id (λ l a e. free (inr (l, (of.held l).1 a, e)))

    pub past_starts : 2 ^ 64 ≤ id
    past_starts = ⊎_elim (λ (lt : id < 2 ^ 64). absurd (free (inl lt))) (λ (le : 2 ^ 64 ≤ id). le) (cases_lt id (2 ^ 64))

-- no id of a commit is that of the head
pub not_head : (s : Stored) → IsSource s → (id : ℕ) → ¬ (IsTaken s id) → id ≢ head_of s
not_head s is id free e =
    let latest = latest_of is.history in
    let head = head_is s is.history is.is in
    let past = past_starts s is.history is.is id free in
    ⊎_elim (λ (at : head_after latest.start (links_within (tables_of s) latest) ≡ latest.start).
    let below = (epoch_good (tables_of s) is.history latest is.is.history (latest_among (record { start = 0; commits = is.history.first }) is.history.later)).below in
    omega (arith, e, head, at, past, below))
    (λ (t : (x : Link) × Among (links_within (tables_of s) latest) x × (x.id ≡ head_after latest.start (links_within (tables_of s) latest))).
    free (inr (t.0, (is.is.held t.0).1 (among_within (tables_of s) (epochs_of is.history) latest t.0 (latest_among (record { start = 0; commits = is.history.first }) is.history.later) t.1), t.2 ∙ sym head ∙ sym e)))
    (head_from (tables_of s) latest.start no_rows latest.commits)

-- ---- one more link

module _ (m : FinMap nat_cmp Link) (l : Link) (none : NonePrev m l) where
  pub holds_still : (x : Link) → Holds m x → Holds (insert m l.prev l) x
  holds_still x held = insert_other m l.prev l x.prev (none x held) ∙ held

  pub holds_new : (x : Link) → x ≡ l → Holds (insert m l.prev l) x
  holds_new x same = insert_at m l.prev l x.prev (ap (λ (y : Link). y.prev) same) ∙ ap Some (sym same)

-- the links of the set and one more are those of this list and its link
pub held_with : (m : FinMap nat_cmp Link) (l : Link) (S T : Link → Type 0) → NonePrev m l → ((x : Link) → Holds m x ↔ S x) → ((x : Link) → S x → T x) → T l → ((x : Link) → T x → S x ⊎ (x ≡ l))
    → (x : Link) → Holds (insert m l.prev l) x ↔ T x
held_with m l S T none is more last only x = (
  λ held. ⊎_elim (λ (before : Holds m x). more x ((is x).0 before)) (λ (same : x ≡ l). subst T (sym same) last) (held_before m l x held),
  λ t. ⊎_elim (λ (before : S x). holds_still m l none x ((is x).1 before)) (λ (same : x ≡ l). holds_new m l none x same) (only x t),
)

-- ---- one more commit

-- a source with one more link
abbrev pub linked : Stored → ℕ → Rows → Stored
linked s id rows = after_append s (link_to s id rows) (Ok tt)

pub rows_of_linked : (s : Stored) (id : ℕ) (rows : Rows) → IsCommit (tables_of s) (rows_of s) rows id → rows_of (linked s id rows) ≡ rows
rows_of_linked s id rows c = appended (tables_of s) no_rows s.folded (link_to s id rows) ∙ difference_after (tables_of s) (rows_of s) rows id c.before c.after c
  where
    appended : (ts : List Table) (from : Rows) (ls : List Link) (l : Link) → rows_after ts from (ls ++ l ∷ []) ≡ after ts (rows_after ts from ls) l.change l.id
    appended ts from [] l = refl
    appended ts from (m ∷ ms) l = appended ts (after ts from m.change m.id) ms l

module _ (s : Stored) (h : EpochHistory) (of : IsSourceOf s h) (id : ℕ) (rows : Rows) (free : ¬ (IsTaken s id)) (commit : IsCommit (tables_of s) (rows_of s) rows id) where
  abbrev pub new : Commit
  new = record { id = id; rows = rows }

  -- the commit's link is the one that the source makes
  is_new_link : new_link (tables_of s) (latest_of h) new ≡ link_to s id rows
  is_new_link =
      ap (λ (prev : ℕ). record { prev = prev; id = id; change = database_difference (tables_of s) (last_rows (latest_of h).commits) rows }) (sym (head_is s h of))
      ∙ ap (λ (before : Rows). record { prev = head_of s; id = id; change = database_difference (tables_of s) before rows }) (sym (rows_are s h of))

  committed_is : IsEpochHistory (tables_of s) (committed h new)
  committed_is =
      history_committed (tables_of s) h new of.history (subst (λ (before : Rows). IsCommit (tables_of s) before rows id) (rows_are s h of) commit) (past_starts s h of id free) (new_id s h of id free)

  -- a source stays one
  pub source_linked : IsSourceOf (linked s id rows) (committed h new)
  source_linked =
      let links = committed_links (tables_of s) h new in
      let l = link_to s id rows in
      let S : Link → Type 0 = Among (links_in (tables_of s) (epochs_of h)) in
      let T : Link → Type 0 = Among (links_in (tables_of s) (epochs_of (committed h new))) in
      record {
        history = committed_is;
        held = held_with s.links l S T (none_next s h of) of.held links.0 (subst T is_new_link links.1) (λ x t. ⊎_elim (λ (a : S x). inl a) (λ (e : x ≡ new_link (tables_of s) (latest_of h) new). inr (e ∙ is_new_link)) (links.2 x t));
        folded =
            ap (λ (ls : List Link). ls ++ l ∷ []) of.folded
            ∙ ap (λ (x : Link). links_within (tables_of s) (latest_of h) ++ x ∷ []) (sym is_new_link)
            ∙ sym (links_push (tables_of s) (latest_of h).start no_rows (latest_of h).commits new)
            ∙ ap (links_within (tables_of s)) (sym (latest_committed h new));
      }

  pub is_continued : IsContinued (tables_of s) h (link_to s id rows) (committed h new)
  is_continued = record {
    commit = new;
    id = refl;
    is = refl;
    links = committed_in_order (tables_of s) h new ∙ ap (λ (x : Link). links_in (tables_of s) (epochs_of h) ++ x ∷ []) is_new_link;
  }

  -- its links and the new one are of one history, so they don't contradict each other
  pub one_source : AreOfOneSource (tables_of s) (Holds s.links) (Among (link_to s id rows ∷ []))
  one_source =
      let links = committed_links (tables_of s) h new in
      let T : Link → Type 0 = Among (links_in (tables_of s) (epochs_of (committed h new))) in (
        committed h new,
        committed_is,
        λ x held. links.0 x ((of.held x).0 held),
        λ x a. ⊎_elim (λ (e : x ≡ link_to s id rows). subst T (sym (e ∙ sym is_new_link)) links.1) (λ (none : ⊥). absurd none) a,
      )

-- ---- the link that is made

-- a change that leads to rows is none exactly where they are the same
pub no_change : (s : Stored) (id : ℕ) (change : Actions) (rows : Rows) → LeadsBy s id change rows → change ≡ empty → rows ≡ rows_of s
no_change s id change rows leads none = (nothing_exactly (tables_of s) (rows_of s) rows id leads.commit).0 (sym leads.difference ∙ none)

pub some_change : (s : Stored) (id : ℕ) (change : Actions) (rows : Rows) → LeadsBy s id change rows → change ≢ empty → rows ≢ rows_of s
some_change s id change rows leads some same = some (leads.difference ∙ (nothing_exactly (tables_of s) (rows_of s) rows id leads.commit).1 same)

pub is_link_to : (s : Stored) (id : ℕ) (change : Actions) (rows : Rows) (l : Link) → LeadsBy s id change rows → l ≡ record { prev = head_of s; id = id; change = change } → l ≡ link_to s id rows
is_link_to s id change rows l leads is = is ∙ ap (λ (c : Actions). record { prev = head_of s; id = id; change = c }) leads.difference

-- ---- the first store

pub no_commits_in : (schema : SchemaValue) → IsSourceOf (record { schema = schema; links = empty; folded = [] }) (record { first = []; later = [] })
no_commits_in schema = record {
  history = record { first = record { distinct = tt; no_start = tt; commits = tt }; later = tt; distinct = tt };
  held = λ l. (λ held. (let none : None ≡ Some l = sym (get-empty nat_cmp l.prev) ∙ held in absurd cc), λ a. absurd a);
  folded = refl;
}

pub no_commits : (schema : SchemaValue) → IsSource (record { schema = schema; links = empty; folded = [] })
no_commits schema = record { history = record { first = []; later = [] }; is = no_commits_in schema }
