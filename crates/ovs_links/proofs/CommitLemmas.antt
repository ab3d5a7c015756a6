-- One more commit in the latest epoch of a history, and one that begins a new epoch.
use Rattle.std.proofs.Common.{◌≡◌, ◌≢◌, ℕ, zero, suc, ◌<◌, ◌≤◌, ◌^◌, ◌⊎◌, inl, inr, List, [], ◌∷◌, ◌++◌, length, refl, sym, ◌∙◌, ap, subst, arith, ⊎_elim}
use Rattle.ovs_types.specs.declared.schema.Table.{Table}
use Rattle.ovs_rows.specs.Row.{Rows, no_rows}
use Rattle.ovs_rows.specs.DatabaseDifference.{database_difference, IsCommit}
use Rattle.ovs_links.specs.Sets.{Among}
use Rattle.ovs_links.specs.Chains.{head_after}
use Rattle.ovs_links.specs.History.{Commit, IsNoId, AreDistinct, NoneIsStart, CommitsFrom, IsHistory, links_of, rows_at}
use Rattle.ovs_links.specs.Epochs.{Epoch, EpochHistory, EpochsFrom, IsEpochHistory, CarriesOn, begun_epoch, committed, committed_by, committed_in, commits_in, epochs_of, last_rows, latest_from, latest_of, links_in, links_within, with_commit}
use Rattle.ovs_links.specs.declared.link.Link.{Link}
use Rattle.ovs_links.proofs.EpochLemmas.{Among-append, Among-left, Among-right, IsNoId-left, IsNoId-right, append_none, append_assoc_commits, distinct_push}

-- ---- a history with one more commit

past_push : (ks : List Commit) (k : Commit) → NoneIsStart ks → 2 ^ 64 ≤ k.id → NoneIsStart (ks ++ k ∷ [])
past_push [] k n a = (a, tt)
past_push (j ∷ ks) k n a = (n.0, past_push ks k n.1 a)

commits_from_push : (ts : List Table) (rows : Rows) (ks : List Commit) (k : Commit) → CommitsFrom ts rows ks → IsCommit ts (rows_at rows ks (length ks)) k.rows k.id
    → CommitsFrom ts rows (ks ++ k ∷ [])
commits_from_push ts rows [] k v c = (c, tt)
commits_from_push ts rows (j ∷ ks) k v c = (v.0, commits_from_push ts j.rows ks k v.1 c)

pub history_push : (ts : List Table) (rows : Rows) (ks : List Commit) (k : Commit) → IsHistory ts rows ks → IsCommit ts (rows_at rows ks (length ks)) k.rows k.id → 2 ^ 64 ≤ k.id
    → IsNoId k.id ks → IsHistory ts rows (ks ++ k ∷ [])
history_push ts rows ks k h c past new =
    record { distinct = distinct_push ks k h.distinct new; no_start = past_push ks k h.no_start past; commits = commits_from_push ts rows ks k h.commits c }

-- the link that the commit makes
abbrev pub commit_link : List Table → ℕ → Rows → List Commit → Commit → Link
commit_link ts start rows ks k =
    record { prev = head_after start (links_of ts start rows ks); id = k.id; change = database_difference ts (rows_at rows ks (length ks)) k.rows }

pub links_push : (ts : List Table) (start : ℕ) (rows : Rows) (ks : List Commit) (k : Commit)
    → links_of ts start rows (ks ++ k ∷ []) ≡ links_of ts start rows ks ++ commit_link ts start rows ks k ∷ []
links_push ts start rows [] k = refl
links_push ts start rows (j ∷ ks) k = ap (λ (ls : List Link). record { prev = start; id = j.id; change = database_difference ts rows j.rows } ∷ ls) (links_push ts j.id j.rows ks k)

-- ---- in the latest epoch

carries_push : (rows : Rows) (ks : List Commit) (k : Commit) → CarriesOn rows ks → CarriesOn rows (ks ++ k ∷ [])
carries_push rows [] k c = absurd c
carries_push rows (j ∷ ks) k c = c

epochs_committed : (ts : List Table) (start : ℕ) (rows : Rows) (e : Epoch) (es : List Epoch) (k : Commit) → EpochsFrom ts start rows (e ∷ es)
    → IsCommit ts (last_rows (latest_from e es).commits) k.rows k.id → 2 ^ 64 ≤ k.id → IsNoId k.id (commits_in (e ∷ es)) → EpochsFrom ts start rows (committed_in e es k)
epochs_committed ts start rows e [] k r c past new =
    (r.0, r.1, history_push ts no_rows e.commits k r.2 c past (IsNoId-left k.id e.commits [] new), carries_push rows e.commits k r.3, tt)
epochs_committed ts start rows e (d ∷ ds) k r c past new =
    (r.0, r.1, r.2, r.3, epochs_committed ts e.start (last_rows e.commits) d ds k r.4 c past (IsNoId-right k.id e.commits (commits_in (d ∷ ds)) new))

commits_committed : (e : Epoch) (es : List Epoch) (k : Commit) → commits_in (committed_in e es k) ≡ commits_in (e ∷ es) ++ k ∷ []
commits_committed e [] k = append_none (e.commits ++ k ∷ []) ∙ ap (λ (ks : List Commit). ks ++ k ∷ []) (sym (append_none e.commits))
commits_committed e (d ∷ ds) k =
    ap (λ (ks : List Commit). e.commits ++ ks) (commits_committed d ds k) ∙ sym (append_assoc_commits e.commits (commits_in (d ∷ ds)) (k ∷ []))

pub epochs_by : (first : List Commit) (later : List Epoch) (k : Commit) → epochs_of (committed_by first later k) ≡ committed_in (record { start = 0; commits = first }) later k
epochs_by first [] k = refl
epochs_by first (e ∷ es) k = refl

pub history_committed : (ts : List Table) (h : EpochHistory) (k : Commit) → IsEpochHistory ts h → IsCommit ts (last_rows (latest_of h).commits) k.rows k.id → 2 ^ 64 ≤ k.id
    → IsNoId k.id (commits_in (epochs_of h)) → IsEpochHistory ts (committed h k)
history_committed ts h k is c past new = by h.first h.later is.first is.later is.distinct c new
  where
    by : (first : List Commit) (later : List Epoch) → IsHistory ts no_rows first → EpochsFrom ts 0 (last_rows first) later → AreDistinct (commits_in (record { start = 0; commits = first } ∷ later))
        → IsCommit ts (last_rows (latest_from (record { start = 0; commits = first }) later).commits) k.rows k.id → IsNoId k.id (commits_in (record { start = 0; commits = first } ∷ later))
        → IsEpochHistory ts (committed_by first later k)
    by first [] a b d c new =
        record {
          first = history_push ts no_rows first k a c past (IsNoId-left k.id first [] new);
          later = tt;
          distinct = subst AreDistinct (sym (commits_committed (record { start = 0; commits = first }) [] k)) (distinct_push (first ++ []) k d new);
        }
    by first (e ∷ es) a b d c new =
        record {
          first = a;
          later = epochs_committed ts 0 (last_rows first) e es k b c past (IsNoId-right k.id first (commits_in (e ∷ es)) new);
          distinct = subst AreDistinct (sym (commits_committed (record { start = 0; commits = first }) (e ∷ es) k)) (distinct_push (first ++ commits_in (e ∷ es)) k d new);
        }

latest_in : (c e : Epoch) (es : List Epoch) (k : Commit) → latest_from c (committed_in e es k) ≡ with_commit (latest_from e es) k
latest_in c e [] k = refl
latest_in c e (d ∷ ds) k = latest_in e d ds k

pub latest_committed : (h : EpochHistory) (k : Commit) → latest_of (committed h k) ≡ with_commit (latest_of h) k
latest_committed h k = by h.first h.later
  where
    by : (first : List Commit) (later : List Epoch) → latest_of (committed_by first later k) ≡ with_commit (latest_from (record { start = 0; commits = first }) later) k
    by first [] = refl
    by first (e ∷ es) = latest_in (record { start = 0; commits = first }) e es k

-- ---- its links

abbrev pub new_link : List Table → Epoch → Commit → Link
new_link ts e k = commit_link ts e.start no_rows e.commits k

links_committed : (ts : List Table) (e : Epoch) (es : List Epoch) (k : Commit) (l : Link) → Among (links_in ts (e ∷ es)) l → Among (links_in ts (committed_in e es k)) l
links_committed ts e [] k l a =
    ⊎_elim (λ (b : Among (links_within ts e) l).
    Among-left (links_within ts (with_commit e k)) [] l (subst (λ (ls : List Link). Among ls l) (sym (links_push ts e.start no_rows e.commits k)) (Among-left (links_within ts e) (new_link ts e k ∷ []) l b)))
    (λ (b : Among [] l). absurd b) (Among-append (links_within ts e) [] l a)
links_committed ts e (d ∷ ds) k l a =
    ⊎_elim (λ (b : Among (links_within ts e) l). Among-left (links_within ts e) (links_in ts (committed_in d ds k)) l b)
    (λ (b : Among (links_in ts (d ∷ ds)) l). Among-right (links_within ts e) (links_in ts (committed_in d ds k)) l (links_committed ts d ds k l b)) (Among-append (links_within ts e) (links_in ts (d ∷ ds)) l a)

link_committed : (ts : List Table) (e : Epoch) (es : List Epoch) (k : Commit) → Among (links_in ts (committed_in e es k)) (new_link ts (latest_from e es) k)
link_committed ts e [] k =
    let l = new_link ts e k in
    Among-left (links_within ts (with_commit e k)) [] l (subst (λ (ls : List Link). Among ls l) (sym (links_push ts e.start no_rows e.commits k)) (Among-right (links_within ts e) (l ∷ []) l (inl refl)))
link_committed ts e (d ∷ ds) k = Among-right (links_within ts e) (links_in ts (committed_in d ds k)) (new_link ts (latest_from d ds) k) (link_committed ts d ds k)

only_committed : (ts : List Table) (e : Epoch) (es : List Epoch) (k : Commit) (l : Link) → Among (links_in ts (committed_in e es k)) l
    → Among (links_in ts (e ∷ es)) l ⊎ (l ≡ new_link ts (latest_from e es) k)
only_committed ts e [] k l a =
    ⊎_elim (λ (b : Among (links_within ts (with_commit e k)) l).
    ⊎_elim (λ (c : Among (links_within ts e) l). inl (Among-left (links_within ts e) [] l c))
    (λ (c : Among (new_link ts e k ∷ []) l). ⊎_elim (λ (s : l ≡ new_link ts e k). inr s) (λ (n : Among [] l). absurd n) c)
    (Among-append (links_within ts e) (new_link ts e k ∷ []) l (subst (λ (ls : List Link). Among ls l) (links_push ts e.start no_rows e.commits k) b)))
    (λ (b : Among [] l). absurd b) (Among-append (links_within ts (with_commit e k)) [] l a)
only_committed ts e (d ∷ ds) k l a =
    ⊎_elim (λ (b : Among (links_within ts e) l). inl (Among-left (links_within ts e) (links_in ts (d ∷ ds)) l b))
    (λ (b : Among (links_in ts (committed_in d ds k)) l).
    ⊎_elim (λ (c : Among (links_in ts (d ∷ ds)) l). inl (Among-right (links_within ts e) (links_in ts (d ∷ ds)) l c))
    (λ (s : l ≡ new_link ts (latest_from d ds) k). inr s) (only_committed ts d ds k l b)) (Among-append (links_within ts e) (links_in ts (committed_in d ds k)) l a)

-- the links of a history with one more commit are those before and the new one
pub committed_links : (ts : List Table) (h : EpochHistory) (k : Commit) → ((l : Link) → Among (links_in ts (epochs_of h)) l → Among (links_in ts (epochs_of (committed h k))) l)
    × Among (links_in ts (epochs_of (committed h k))) (new_link ts (latest_of h) k)
    × ((l : Link) → Among (links_in ts (epochs_of (committed h k))) l → Among (links_in ts (epochs_of h)) l ⊎ (l ≡ new_link ts (latest_of h) k))
committed_links ts h k =
    let e : Epoch = record { start = 0; commits = h.first } in
    let same : epochs_of (committed h k) ≡ committed_in e h.later k = epochs_by h.first h.later k in (
      λ l a. subst (λ (es : List Epoch). Among (links_in ts es) l) (sym same) (links_committed ts e h.later k l a),
      subst (λ (es : List Epoch). Among (links_in ts es) (new_link ts (latest_of h) k)) (sym same) (link_committed ts e h.later k),
      λ l a. only_committed ts e h.later k l (subst (λ (es : List Epoch). Among (links_in ts es) l) same a),
    )

-- ---- the links of a history that begins a new epoch

links_append : (ts : List Table) (es : List Epoch) (e : Epoch) (l : Link) → Among (links_in ts (es ++ e ∷ [])) l → Among (links_in ts es) l ⊎ Among (links_within ts e) l
links_append ts [] e l a = ⊎_elim (λ (b : Among (links_within ts e) l). inr b) (λ (b : Among [] l). absurd b) (Among-append (links_within ts e) [] l a)
links_append ts (d ∷ ds) e l a =
    ⊎_elim (λ (b : Among (links_within ts d) l). inl (Among-left (links_within ts d) (links_in ts ds) l b))
    (λ (b : Among (links_in ts (ds ++ e ∷ [])) l). ⊎_elim (λ (c : Among (links_in ts ds) l). inl (Among-right (links_within ts d) (links_in ts ds) l c)) (λ (c : Among (links_within ts e) l). inr c) (links_append ts ds e l b))
    (Among-append (links_within ts d) (links_in ts (ds ++ e ∷ [])) l a)

links_before : (ts : List Table) (es : List Epoch) (e : Epoch) (l : Link) → Among (links_in ts es) l → Among (links_in ts (es ++ e ∷ [])) l
links_before ts [] e l a = absurd a
links_before ts (d ∷ ds) e l a =
    ⊎_elim (λ (b : Among (links_within ts d) l). Among-left (links_within ts d) (links_in ts (ds ++ e ∷ [])) l b)
    (λ (b : Among (links_in ts ds) l). Among-right (links_within ts d) (links_in ts (ds ++ e ∷ [])) l (links_before ts ds e l b)) (Among-append (links_within ts d) (links_in ts ds) l a)

links_behind : (ts : List Table) (es : List Epoch) (e : Epoch) (l : Link) → Among (links_within ts e) l → Among (links_in ts (es ++ e ∷ [])) l
links_behind ts [] e l a = Among-left (links_within ts e) [] l a
links_behind ts (d ∷ ds) e l a = Among-right (links_within ts d) (links_in ts (ds ++ e ∷ [])) l (links_behind ts ds e l a)

-- the first link of an epoch, which inserts all rows
abbrev pub first_link : List Table → ℕ → Commit → Link
first_link ts start k = record { prev = start; id = k.id; change = database_difference ts no_rows k.rows }

pub begun_links : (ts : List Table) (h : EpochHistory) (start : ℕ) (k : Commit) → ((l : Link) → Among (links_in ts (epochs_of h)) l → Among (links_in ts (epochs_of (begun_epoch h start k))) l)
    × Among (links_in ts (epochs_of (begun_epoch h start k))) (first_link ts start k)
    × ((l : Link) → Among (links_in ts (epochs_of (begun_epoch h start k))) l → Among (links_in ts (epochs_of h)) l ⊎ (l ≡ first_link ts start k))
begun_links ts h start k =
    let e : Epoch = record { start = start; commits = k ∷ [] } in (
      λ l a. links_before ts (epochs_of h) e l a,
      links_behind ts (epochs_of h) e (first_link ts start k) (inl refl),
      λ l a. ⊎_elim (λ (b : Among (links_in ts (epochs_of h)) l). inl b)
          (λ (b : Among (links_within ts e) l). ⊎_elim (λ (s : l ≡ first_link ts start k). inr s) (λ (n : Among [] l). absurd n) b) (links_append ts (epochs_of h) e l a),
    )

pub latest_begun : (h : EpochHistory) (start : ℕ) (k : Commit) → latest_of (begun_epoch h start k) ≡ record { start = start; commits = k ∷ [] }
latest_begun h start k = by (record { start = 0; commits = h.first }) h.later
  where
    by : (e : Epoch) (es : List Epoch) → latest_from e (es ++ record { start = start; commits = k ∷ [] } ∷ []) ≡ record { start = start; commits = k ∷ [] }
    by e [] = refl
    by e (d ∷ ds) = by d ds

-- an id that no link has is no commit's
no_commit_in : (ts : List Table) (start : ℕ) (rows : Rows) (ks : List Commit) (id : ℕ) → ((l : Link) → Among (links_of ts start rows ks) l → l.id ≢ id) → IsNoId id ks
no_commit_in ts start rows [] id other = tt
no_commit_in ts start rows (k ∷ ks) id other =
    (other (record { prev = start; id = k.id; change = database_difference ts rows k.rows }) (inl refl), no_commit_in ts k.id k.rows ks id (λ l a. other l (inr a)))

no_id_both : (i : ℕ) (ks ls : List Commit) → IsNoId i ks → IsNoId i ls → IsNoId i (ks ++ ls)
no_id_both i [] ls n m = m
no_id_both i (k ∷ ks) ls n m = (n.0, no_id_both i ks ls n.1 m)

pub no_commit : (ts : List Table) (es : List Epoch) (id : ℕ) → ((l : Link) → Among (links_in ts es) l → l.id ≢ id) → IsNoId id (commits_in es)
no_commit ts [] id other = tt
no_commit ts (e ∷ es) id other =
    no_id_both id e.commits (commits_in es) (no_commit_in ts e.start no_rows e.commits id (λ l a. other l (Among-left (links_within ts e) (links_in ts es) l a)))
    (no_commit ts es id (λ l a. other l (Among-right (links_within ts e) (links_in ts es) l a)))
