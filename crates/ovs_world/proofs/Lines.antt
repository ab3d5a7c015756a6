-- The epochs of a source's history, and what its nodes have folded of them.
use Rattle.std.proofs.Common.{◌≡◌, ◌⊎◌, ⊎_elim, inl, inr, ℕ, List, [], ◌∷◌, ◌++◌, Option, Some, None, length, take, refl, sym, ◌∙◌, ap, subst, append-nil}
use Rattle.ovs_types.specs.Schema.{SchemaValue}
use Rattle.ovs_types.specs.declared.schema.Table.{Table}
use Rattle.ovs_rows.specs.Row.{Rows, no_rows}
use Rattle.ovs_links.specs.Chains.{JoinUp, start_of}
use Rattle.ovs_links.specs.Epochs.{Epoch, EpochHistory, EpochsFrom, IsEpochHistory, IsEpochIn, CarriesOn, committed, committed_in, epochs_of, begun_epoch, last_rows, links_in, links_within, with_commit}
use Rattle.ovs_links.specs.History.{Commit, IsHistory, links_of}
use Rattle.ovs_links.specs.Link.{IsStart}
use Rattle.ovs_links.specs.Sets.{AllOf, Among, Holds}
use Rattle.ovs_links.specs.Store.{Stored, tables_of, start_in}
use Rattle.ovs_links.specs.declared.link.Link.{Link}
use Rattle.ovs_links.proofs.ChainLemmas.{AllOf-weaker}
use Rattle.ovs_links.proofs.CommitLemmas.{epochs_by, links_push, new_link}
use Rattle.ovs_links.proofs.EpochLemmas.{Among-left, Among-right, epoch_good, first_in, one_start, rising_of, stays}
use Rattle.ovs_links.proofs.HistoryLemmas.{history_prefix}
use Rattle.ovs_source.specs.Commits.{IsSourceOf, IsSource, KeepsHistory}
use Rattle.ovs_source.specs.Trimming.{BeginsEpoch}
use Rattle.ovs_upstream.proofs.Runs.{IsLine}
use Rattle.ovs_upstream.proofs.Streams.{history_line}
use Rattle.ovs_world.specs.Leading.{IsLineOf}
use Rattle.ovs_world.specs.Nodes.{IsNode}

-- ---- one of several epochs

in_epochs : (ts : List Table) (es : List Epoch) (e : Epoch) (l : Link) → IsEpochIn es e → Among (links_within ts e) l → Among (links_in ts es) l
in_epochs ts [] e l a b = absurd a
in_epochs ts (d ∷ ds) e l (inl s) b = Among-left (links_within ts d) (links_in ts ds) l (subst (λ (x : Epoch). Among (links_within ts x) l) s b)
in_epochs ts (d ∷ ds) e l (inr a) b = Among-right (links_within ts d) (links_in ts ds) l (in_epochs ts ds e l a b)

some_start : (ts : List Table) (start : ℕ) (rows : Rows) (ks : List Commit) (l : Link) → Among (links_of ts start rows ks) l → start_of (links_of ts start rows ks) ≡ start
some_start ts start rows [] l a = absurd a
some_start ts start rows (k ∷ ks) l a = refl

-- the links of an epoch begin at its start
start_from : (ts : List Table) (start : ℕ) (rows : Rows) (es : List Epoch) (e : Epoch) → EpochsFrom ts start rows es → IsEpochIn es e → start_of (links_within ts e) ≡ e.start
start_from ts start rows [] e r a = absurd a
start_from ts start rows (d ∷ ds) e r (inl s) = subst (λ (x : Epoch). start_of (links_within ts x) ≡ x.start) (sym s) (by d.commits r.3)
  where
    by : (ks : List Commit) → CarriesOn rows ks → start_of (links_of ts d.start no_rows ks) ≡ d.start
    by [] c = absurd c
    by (k ∷ ks) c = refl
start_from ts start rows (d ∷ ds) e r (inr a) = start_from ts d.start (last_rows d.commits) ds e r.4 a

epoch_start : (ts : List Table) (h : EpochHistory) (e : Epoch) → IsEpochHistory ts h → IsEpochIn (epochs_of h) e → start_of (links_within ts e) ≡ e.start
epoch_start ts h e k (inl s) = subst (λ (x : Epoch). start_of (links_within ts x) ≡ x.start) (sym s) (one_start ts no_rows h.first)
epoch_start ts h e k (inr a) = start_from ts 0 (last_rows h.first) h.later e k.later a

-- where links of an epoch lead from
abbrev LeadFrom : List Table → Epoch → ℕ → Type 0
LeadFrom ts e i = (i ≡ e.start) ⊎ ((x : Link) × Among (links_within ts e) x × (x.id ≡ i))

module _ (ts : List Table) (h : EpochHistory) (k : IsEpochHistory ts h) (e : Epoch) (among : IsEpochIn (epochs_of h) e) where
  all_within : (i : ℕ) (rows : Rows) (ms : List Link) → LeadFrom ts e i → AllOf (Among (links_in ts (epochs_of h))) ms → JoinUp ts i rows ms → AllOf (Among (links_within ts e)) ms
  all_within i rows [] from a j = tt
  all_within i rows (m ∷ ms) from a j =
      let here = stays ts 0 (epochs_of h) (rising_of ts h k) k.distinct e among i m a.0 from j.0 in
      (here, all_within m.id _ ms (inr (m, here, refl)) a.1 j.2)

  -- links that join up from the start of an epoch are the first of it
  front_of : (ms : List Link) → AllOf (Among (links_in ts (epochs_of h))) ms → JoinUp ts e.start no_rows ms → ms ≡ take (length ms) (links_within ts e)
  front_of ms a j =
      let g = epoch_good ts h e k among in
      sym (history_prefix ts e.start no_rows e.commits ms (record { below = g.below; history = g.history }) (all_within e.start no_rows ms (inl refl) a j) j)

-- ---- the lines of a source

module _ (source : Stored) (line : List Link) (is : IsLineOf source line) where
  line_start : start_of line ≡ is.epoch.start
  line_start = ap start_of (sym is.links) ∙ epoch_start (tables_of source) is.history is.epoch is.of_source.history is.among

  pub source_line : IsLine (tables_of source) line
  source_line =
      let g = epoch_good (tables_of source) is.history is.epoch is.of_source.history is.among in
      subst (IsLine (tables_of source)) is.links (history_line (tables_of source) is.epoch.start is.epoch.commits g.below g.history)

  pub line_history : IsHistory (tables_of source) no_rows is.epoch.commits
  line_history = (epoch_good (tables_of source) is.history is.epoch is.of_source.history is.among).history

  -- the source holds all of it
  pub line_held : (l : Link) → Among line l → Holds source.links l
  line_held l a = (is.of_source.held l).1
      (in_epochs (tables_of source) (epochs_of is.history) is.epoch l is.among (subst (λ (ls : List Link). Among ls l) (sym is.links) a))

  -- a node that begins where it does has folded the first of it
  pub line_front : (s : Stored) → IsNode source s → start_in s ≡ start_of line → s.folded ≡ take (length s.folded) line
  line_front s node begins =
      let ts = tables_of source in
      let members : AllOf (Among (links_in ts (epochs_of is.history))) s.folded =
      AllOf-weaker (Holds s.links) (Among (links_in ts (epochs_of is.history))) (λ l held. (is.of_source.held l).0 (node.within l held)) s.folded node.store.chain.members in
      let joined : JoinUp ts is.epoch.start no_rows s.folded = subst (λ (i : ℕ). JoinUp ts i no_rows s.folded) (begins ∙ line_start)
      (subst (λ (v : SchemaValue). JoinUp v.description.tables (start_in s) no_rows s.folded) node.schema node.store.chain.joined) in
      front_of ts is.history is.of_source.history is.epoch is.among s.folded members joined ∙ ap (take (length s.folded)) is.links

-- a node has folded links of some epoch
pub line_of : (source s : Stored) → IsSource source → IsNode source s → (line : List Link) × IsLineOf source line × (start_of line ≡ start_in s)
line_of source s is node = by s.folded node.store.start node.store.chain.members
  where
    ts : List Table
    ts = tables_of source

    by : (ls : List Link) → IsStart (start_of ls) → AllOf (Holds s.links) ls → (line : List Link) × IsLineOf source line × (start_of line ≡ start_of ls)
    by [] below members =
        let e : Epoch = record { start = 0; commits = is.history.first } in (
          links_within (tables_of source) e,
          record { history = is.history; of_source = is.is; epoch = e; among = inl refl; links = refl },
          one_start (tables_of source) no_rows is.history.first,
        )
    by (l ∷ ls) below members =
        let h = is.history in
        let t = first_in (tables_of source) 0 (epochs_of h) (rising_of (tables_of source) h is.is.history) l ((is.is.held l).0 (node.within l members.0)) below in (
          links_within (tables_of source) t.0,
          record { history = h; of_source = is.is; epoch = t.0; among = t.1; links = refl },
          some_start (tables_of source) t.0.start no_rows t.0.commits l t.2 ∙ sym t.3,
        )

-- ---- when the source commits, and when it begins a new epoch

in_committed : (e : Epoch) (es : List Epoch) (k : Commit) (d : Epoch) → IsEpochIn (e ∷ es) d → (c : Epoch) × IsEpochIn (committed_in e es k) c × ((c ≡ d) ⊎ (c ≡ with_commit d k))
in_committed e [] k d (inl s) = (with_commit e k, inl refl, inr (ap (λ (x : Epoch). with_commit x k) (sym s)))
in_committed e [] k d (inr a) = absurd a
in_committed e (f ∷ fs) k d (inl s) = (e, inl refl, inl (sym s))
in_committed e (f ∷ fs) k d (inr a) = let t = in_committed f fs k d a in (t.0, inr t.1, t.2)

in_begun : (es : List Epoch) (e d : Epoch) → IsEpochIn es d → IsEpochIn (es ++ e ∷ []) d
in_begun [] e d a = absurd a
in_begun (f ∷ fs) e d (inl s) = inl s
in_begun (f ∷ fs) e d (inr a) = inr (in_begun fs e d a)

-- a line, with perhaps more links behind it, is one of the source later
abbrev pub LineGoesOn : Stored → List Link → Type 0
LineGoesOn t line = (more : List Link) × IsLineOf t (line ++ more) × (start_of (line ++ more) ≡ start_of line)

module _ (s t : Stored) (same : t.schema ≡ s.schema) (line : List Link) (is : IsLineOf s line) where
  tables : tables_of t ≡ tables_of s
  tables = ap (λ (v : SchemaValue). v.description.tables) same

  -- with an epoch of a history that the source has then
  by_epoch : (h : EpochHistory) → IsSourceOf t h → (e : Epoch) → IsEpochIn (epochs_of h) e → (more : List Link) → links_within (tables_of s) e ≡ links_within (tables_of s) is.epoch ++ more
      → e.start ≡ is.epoch.start → LineGoesOn t line
  by_epoch h k e among more links start =
      let longer : IsLineOf t (line ++ more) = record {
        history = h;
        of_source = k;
        epoch = e;
        among = among;
        links = ap (λ (ts : List Table). links_within ts e) tables ∙ links ∙ ap (λ (ls : List Link). ls ++ more) is.links;
      } in
      (more, longer, line_start t (line ++ more) longer ∙ start ∙ sym (line_start s line is))

  pub line_kept : (h : EpochHistory) → IsSourceOf t h → IsEpochIn (epochs_of h) is.epoch → LineGoesOn t line
  line_kept h k among = by_epoch h k is.epoch among [] (sym (append-nil (links_within (tables_of s) is.epoch))) refl

  pub line_committed : (k : Commit) → IsSourceOf t (committed is.history k) → LineGoesOn t line
  line_committed k of_source =
      let c = in_committed (record { start = 0; commits = is.history.first }) is.history.later k is.epoch is.among in
      let among : IsEpochIn (epochs_of (committed is.history k)) c.0 = subst (λ (es : List Epoch). IsEpochIn es c.0) (sym (epochs_by is.history.first is.history.later k)) c.1 in
      ⊎_elim
      (λ (e : c.0 ≡ is.epoch). by_epoch (committed is.history k) of_source c.0 among [] (ap (links_within (tables_of s)) e ∙ sym (append-nil (links_within (tables_of s) is.epoch))) (ap (λ (x : Epoch). x.start) e))
      (λ (e : c.0 ≡ with_commit is.epoch k).
      by_epoch (committed is.history k) of_source c.0 among (new_link (tables_of s) is.epoch k ∷ [])
      (ap (links_within (tables_of s)) e ∙ links_push (tables_of s) is.epoch.start no_rows is.epoch.commits k) (ap (λ (x : Epoch). x.start) e)) c.2

  pub line_begun : (start : ℕ) (k : Commit) → IsSourceOf t (begun_epoch is.history start k) → LineGoesOn t line
  line_begun start k of_source = line_kept (begun_epoch is.history start k) of_source (in_begun (epochs_of is.history) (record { start = start; commits = k ∷ [] }) is.epoch is.among)

-- the source has a new link, or begins a new epoch with one: each of its lines goes on
pub keeps_lines : (s t : Stored) (made : Option Link) → t.schema ≡ s.schema → KeepsHistory s made t → (line : List Link) → IsLineOf s line → LineGoesOn t line
keeps_lines s t None same keeps line is =
    let k = keeps is.history is.of_source in
    line_kept s t same line is k.0 k.2 (subst (λ (h : EpochHistory). IsEpochIn (epochs_of h) is.epoch) (sym k.1) is.among)
keeps_lines s t (Some l) same keeps line is =
    let k = keeps is.history is.of_source in
    line_committed s t same line is k.1.commit (subst (IsSourceOf t) k.1.is k.2)

pub begins_lines : (s t : Stored) (l : Link) → t.schema ≡ s.schema → BeginsEpoch s l t → (line : List Link) → IsLineOf s line → LineGoesOn t line
begins_lines s t l same begins line is =
    let k = begins is.history is.of_source in
    line_begun s t same line is l.prev k.1.commit (subst (IsSourceOf t) k.1.is k.2)
