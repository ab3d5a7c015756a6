-- What holds of the nodes of a tier, and of those that have no link.
use Rattle.std.specs.List.{AllByRecursion}
use Rattle.std.specs.FinMap.{get, empty, get-empty, len-empty}
use Rattle.std.specs.Ordering.{nat_cmp}
use Rattle.std.proofs.Common.{◌≡◌, ◌+◌, ℕ, zero, suc, List, [], ◌∷◌, ◌++◌, None, replicate, refl, sym, ◌∙◌, ap, subst, arith}
use Rattle.std.proofs.lemmas.List.{replicate_more}
use Rattle.ovs_types.specs.Schema.{SchemaValue}
use Rattle.ovs_rows.specs.Row.{no_rows}
use Rattle.ovs_links.proofs.GrowLemmas.{grows_by}
use Rattle.ovs_links.specs.Chains.{rows_after}
use Rattle.ovs_links.specs.Epochs.{EpochHistory, IsLatestChain, epochs_of, links_in}
use Rattle.ovs_links.specs.Sets.{Holds, Among}
use Rattle.ovs_links.specs.Store.{Stored, IsStore, tables_of}
use Rattle.ovs_links.specs.declared.link.Link.{Link}
use Rattle.ovs_links.proofs.ChainLemmas.{holds_by_prev}
use Rattle.ovs_links.proofs.EpochLemmas.{epoch_chain}
use Rattle.ovs_links.proofs.OpeningLemmas.{latest_unique}
use Rattle.ovs_source.specs.Commits.{IsSourceOf}
use Rattle.ovs_source.proofs.Histories.{no_commits}
use Rattle.ovs_world.specs.Headline.{HasSourceDatabase, HaveSameDatabase, IsFaithful}
use Rattle.ovs_world.specs.Nodes.{IsNode, IsTier, node_at}
use Rattle.ovs_world.specs.Worlds.{empty_store}
use Rattle.ovs_world.proofs.Scenes.{node_of}

-- ---- the headline

module _ (source : Stored) (h : EpochHistory) (of_source : IsSourceOf source h) where
  node_within : (s : Stored) → IsNode source s → (l : Link) → Holds s.links l → Among (links_in (tables_of source) (epochs_of h)) l
  node_within s node l held = (of_source.held l).0 (node.within l held)

  has_source_database : (s : Stored) → IsNode source s → HasSourceDatabase source h s
  has_source_database s node settled =
      let latest : IsLatestChain (tables_of source) (Holds s.links) s.folded =
      subst (λ (v : SchemaValue). IsLatestChain v.description.tables (Holds s.links) s.folded) node.schema settled in
      let chain = epoch_chain (tables_of source) h (Holds s.links) s.folded of_source.history (node_within s node) latest in
      (chain, ap (λ (v : SchemaValue). rows_after v.description.tables no_rows s.folded) node.schema ∙ chain.rows)

have_same_database : (source s t : Stored) → IsNode source s → IsNode source t → HaveSameDatabase s t
have_same_database source s t node other settled also both =
    let schema : t.schema ≡ s.schema = other.schema ∙ sym node.schema in
    let latest : IsLatestChain (tables_of s) (Holds t.links) t.folded =
    subst (λ (v : SchemaValue). IsLatestChain v.description.tables (Holds t.links) t.folded) schema also in
    let same = latest_unique (Holds s.links) (Holds t.links) (holds_by_prev s.links) (tables_of s) s.folded t.folded (λ l. (both l).0) (λ l. (both l).1) settled latest in
    ap (rows_after (tables_of s) no_rows) same ∙ ap (λ (v : SchemaValue). rows_after v.description.tables no_rows t.folded) (sym schema)

pub faithful : (source : Stored) (relays : List Stored) → IsTier source relays → IsFaithful source relays
faithful source relays tier =
    let h = tier.is_source.history in
    let of_source = tier.is_source.is in
    record {
      history = h;
      of_source = of_source;
      within = λ n. node_within source h of_source (node_at source relays n) (node_of source relays tier n);
      longest = λ n. has_source_database source h of_source (node_at source relays n) (node_of source relays tier n);
      same = λ m n. have_same_database source (node_at source relays m) (node_at source relays n) (node_of source relays tier m) (node_of source relays tier n);
    }

-- ---- no link

pub none_held : (l : Link) → Holds empty l → ⊥
none_held l held = absurd (let n : get (empty {K = ℕ} {X = Link} {R = nat_cmp}) l.prev ≡ None = get-empty nat_cmp l.prev in let f = sym n ∙ held in cc)

pub empty_is_store : (schema : SchemaValue) → IsStore (empty_store schema)
empty_is_store schema = record {
  set = record {
    keyed = λ prev l e. absurd (let n : get (empty {K = ℕ} {X = Link} {R = nat_cmp}) prev ≡ None = get-empty nat_cmp prev in let f = sym n ∙ e in cc);
    consistent = record { by_prev = λ l m a b e. absurd (none_held l a); by_id = λ l m a b e. absurd (none_held l a) };
  };
  ends = λ l held. absurd (none_held l held);
  changes = λ l held. absurd (none_held l held);
  few = omega (arith, len-empty nat_cmp Link);
  start = omega arith;
  chain = record { members = tt; joined = tt };
  grows = λ ls chain. grows_by [] ls ls refl;
}

pub empty_tier : (schema : SchemaValue) (n : ℕ) → IsTier (empty_store schema) (replicate n (empty_store schema))
empty_tier schema n = record { is_source = no_commits schema; store = empty_is_store schema; each = all n }
  where
    node : IsNode (empty_store schema) (empty_store schema)
    node = record { schema = refl; store = empty_is_store schema; within = λ l held. held }

    all : (n : ℕ) → AllByRecursion (IsNode (empty_store schema)) (replicate n (empty_store schema))
    all zero = tt
    all (suc n) = (node, all n)

pub one_more : (schema : SchemaValue) (n : ℕ) (stores : List Stored) → stores ≡ replicate n (empty_store schema) → stores ++ empty_store schema ∷ [] ≡ replicate (n + 1) (empty_store schema)
one_more schema n stores is = ap (λ (ss : List Stored). ss ++ empty_store schema ∷ []) is ∙ replicate_more n (empty_store schema)
