-- What the folder's calls leave of the ends that are back, and what those have sent.
use Rattle.std.proofs.Math.Logic.{∥∥₁_map, ∥∥₁_map₂}
use Rattle.std.proofs.Common.{◌≡◌, ◌⊎◌, ⊎_elim, ◌++◌, ℕ, zero, suc, List, [], ◌∷◌, Option, None, Result, Ok, Err, ap, sym, subst, inl, inr, arith}
use Rattle.std.specs.Prelude.{IfOk}
use Rattle.ovs_types.specs.Schema.{SchemaValue}
use Rattle.ovs_types.specs.declared.schema.Table.{Table}
use Rattle.ovs_sync.specs.Feed.{FeedValue}
use Rattle.ovs_node.specs.Ledger.{IntakeValue, IsAccountOf, TakesOne, WasSent}
use Rattle.ovs_node.specs.declared.refused.RefusedLink.{RefusedLink}
use Rattle.ovs_links.specs.Answers.{IsSourceChain}
use Rattle.ovs_links.specs.Epochs.{EpochHistory, IsEpochChain, IsEpochHistory, epochs_of, links_in}
use Rattle.ovs_links.specs.Sets.{AllOf, Among, Contradict, Holds, IsConsistent}
use Rattle.ovs_links.specs.Settling.{chain_of}
use Rattle.ovs_links.specs.Store.{Stored, IsChainOf, IsStore, tables_of}
use Rattle.ovs_links.specs.declared.answer.Settled.{Settled}
use Rattle.ovs_links.specs.declared.link.Link.{Link}
use Rattle.ovs_links.proofs.ChainOutcomes.{followed_is_whole}
use Rattle.ovs_links.proofs.EpochLemmas.{epochs_consistent, rising_of}
use Rattle.ovs_node_threads.specs.Reporting.{AreSent, HasAccount, IsReport, KeepsEnds}

-- a call that takes one link at most leaves the ends that are back
pub same_back : (old new : FeedValue Link) → (new ≡ old) ⊎ TakesOne old new → KeepsEnds old new
same_back old new = ⊎_elim
    (λ same. (ap (λ (f : FeedValue Link). f.ends) same, ap (λ (f : FeedValue Link). f.returned) same))
    (λ one. (ap (λ (f : FeedValue Link). f.ends) one.taken, ap (λ (f : FeedValue Link). f.returned) one.taken))

-- one end more that has sent such links
pub sent_more : (sends : List Link → Type 0) (sent : List (List Link)) (more : List Link) → AreSent sends sent → sends more → AreSent sends (sent ++ more ∷ [])
sent_more sends [] more all one = (one, tt)
sent_more sends (ls ∷ sent) more all one = (all.0, sent_more sends sent more all.1 one)

pub more_back : (sends : List Link → Type 0) (old new : FeedValue Link) (more : List Link) → ∥ AreSent sends old.returned ∥₁ → ∥ sends more ∥₁
    → new ≡ record { taken = old.taken; ends = old.ends; returned = old.returned ++ more ∷ [] } → ∥ AreSent sends new.returned ∥₁
more_back sends old new more all one is =
    subst (λ (f : FeedValue Link). ∥ AreSent sends f.returned ∥₁) (sym is) (∥∥₁_map₂ all one (λ a b. sent_more sends old.returned more a b))

-- what is folded is the longest chain
pub chain_in : (s : Stored) → IsStore s → s.folded ≡ chain_of s → IsChainOf s s.folded
chain_in s is chain = subst (λ (ls : List Link). IsChainOf s ls) (sym chain) (followed_is_whole s is).longest

-- what is held of links of one history is that history's latest epoch that it can begin, and none of them contradicts another
module _ (store : Stored) (sent : List (List Link)) (forks : ℕ) (is : IsStore store) (chain : store.folded ≡ chain_of store)
    (held : (l : Link) → Holds store.links l → WasSent sent l) (agree : ((l m : Link) → WasSent sent l → WasSent sent m → Contradict l m → ⊥) → forks ≡ 0) where
  pub of_history : (h : EpochHistory) → IsEpochHistory (tables_of store) h → ((l : Link) → WasSent sent l → Among (links_in (tables_of store) (epochs_of h)) l)
      → (forks ≡ 0) × IsEpochChain (tables_of store) (Holds store.links) (epochs_of h) store.folded
  of_history h history lawful =
      let one : IsConsistent (Among (links_in (tables_of store) (epochs_of h))) = epochs_consistent (tables_of store) 0 (epochs_of h) (rising_of (tables_of store) h history) history.distinct in
      let none : (l m : Link) → WasSent sent l → WasSent sent m → Contradict l m → ⊥ =
      λ l m a b c. ⊎_elim (λ (e : l.prev ≡ m.prev). c.0 (one.by_prev l m (lawful l a) (lawful m b) e)) (λ (e : l.id ≡ m.id). c.0 (one.by_id l m (lawful l a) (lawful m b) e)) c.1 in
      let whole : IsSourceChain (tables_of store) (Holds store.links) store.folded = subst (IsSourceChain (tables_of store) (Holds store.links)) (sym chain) (followed_is_whole store is).source in
      (agree none, whole h history (λ l a. lawful l (held l a)))

-- where each link that may be sent is one of the history
module _ (admits : Link → Type 0) (h : EpochHistory) (among : List Link) (all : (l : Link) → admits l → Among among l) where
  each_among : (ls : List Link) → AllOf admits ls → (l : Link) → Among ls l → Among among l
  each_among [] are l a = absurd a
  each_among (m ∷ ls) are l (inl same) = subst (Among among) (sym same) (all m are.0)
  each_among (m ∷ ls) are l (inr a) = each_among ls are.1 l a

  pub was_among : (sent : List (List Link)) → AreSent (AllOf admits) sent → (l : Link) → WasSent sent l → Among among l
  was_among [] are l was = absurd (omega arith)
  was_among (ls ∷ sent) are l (zero, at, a) = each_among ls are.0 l a
  was_among (ls ∷ sent) are l (suc k, at, a) = was_among sent are.1 l (k, omega arith, a)

pub of_links : (admits : Link → Type 0) (h : EpochHistory) (schema : SchemaValue) (store : Stored) → store.schema ≡ schema → (settled : Settled) (forks short dropped : ℕ) {ends : ℕ} {feed : FeedValue Link}
    → IsReport (AllOf admits) ends feed store settled forks short dropped → IsEpochHistory schema.description.tables h
    → ((l : Link) → admits l → Among (links_in schema.description.tables (epochs_of h)) l)
    → ∥ (forks ≡ 0) × IsEpochChain schema.description.tables (Holds store.links) (epochs_of h) store.folded ∥₁
of_links admits h schema store same settled forks short dropped {ends} {feed} report history all =
    ∥∥₁_map report.admitted (λ are.
    let tables : tables_of store ≡ schema.description.tables = ap (λ (s : SchemaValue). s.description.tables) same in
    let among : (l : Link) → WasSent feed.returned l → Among (links_in (tables_of store) (epochs_of h)) l =
    λ l was. subst (λ (ts : List Table). Among (links_in ts (epochs_of h)) l) (sym tables) (was_among admits h (links_in schema.description.tables (epochs_of h)) all feed.returned are l was) in
    let is = report.of.history h (subst (λ (ts : List Table). IsEpochHistory ts h) (sym tables) history) among in
    (is.0, subst (λ (ts : List Table). IsEpochChain ts (Holds store.links) (epochs_of h) store.folded) tables is.1))

-- of two facts on what a call gave
pub both_of : {T E : Type 0} (r : Result T E) (P Q R : T → Type 0) → ((v : T) → P v → Q v → R v) → IfOk r P → IfOk r Q → IfOk r R
both_of (Ok v) P Q R f p q = f v p q
both_of (Err e) P Q R f p q = tt

-- a report of the same feed
pub of_feed : {sends : List Link → Type 0} {ends : ℕ} (feed feed' : FeedValue Link) {store : Stored} {settled : Settled} {forks short dropped : ℕ}
    → feed' ≡ feed → IsReport sends ends feed store settled forks short dropped → IsReport sends ends feed' store settled forks short dropped
of_feed {sends} {ends} feed feed' {store} {settled} {forks} {short} {dropped} same =
    subst (λ (f : FeedValue Link). IsReport sends ends f store settled forks short dropped) (sym same)

-- an intake with no link left to take has its account in what is reported of it
pub account_of : (i : IntakeValue) (feed : FeedValue Link) (store : Stored) (forks short dropped : ℕ) (untold : List RefusedLink)
    → i.kept ≡ None → feed ≡ i.feed → store ≡ i.store → forks ≡ i.forks → short ≡ i.short → dropped ≡ i.dropped → untold ≡ i.untold
    → IsAccountOf i → HasAccount feed store forks short dropped untold
account_of i feed store forks short dropped untold kept f s a b d u is = (
  i.prunes,
  (subst (λ (x : Stored). IsAccountOf (record { store = x; feed = feed; kept = None; forks = forks; short = short; dropped = dropped; prunes = i.prunes; untold = untold })) (sym s)
      (subst (λ (x : FeedValue Link). IsAccountOf (record { store = i.store; feed = x; kept = None; forks = forks; short = short; dropped = dropped; prunes = i.prunes; untold = untold })) (sym f)
      (subst (λ (x : Option Link). IsAccountOf (record { store = i.store; feed = i.feed; kept = x; forks = forks; short = short; dropped = dropped; prunes = i.prunes; untold = untold })) kept
      (subst (λ (x : ℕ). IsAccountOf (record { store = i.store; feed = i.feed; kept = i.kept; forks = x; short = short; dropped = dropped; prunes = i.prunes; untold = untold })) (sym a)
      (subst (λ (x : ℕ). IsAccountOf (record { store = i.store; feed = i.feed; kept = i.kept; forks = i.forks; short = x; dropped = dropped; prunes = i.prunes; untold = untold })) (sym b)
      (subst (λ (x : ℕ). IsAccountOf (record { store = i.store; feed = i.feed; kept = i.kept; forks = i.forks; short = i.short; dropped = x; prunes = i.prunes; untold = untold })) (sym d)
      (subst (λ (x : List RefusedLink). IsAccountOf (record { store = i.store; feed = i.feed; kept = i.kept; forks = i.forks; short = i.short; dropped = i.dropped; prunes = i.prunes; untold = x })) (sym u)
      is))))))),
)
