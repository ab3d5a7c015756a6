-- Nodes that are settled, and stay so.
use Rattle.std.specs.List.{AllByRecursion, AllZip}
use Rattle.std.proofs.Common.{◌≡◌, ◌≤◌, ◌-◌, ◌⊎◌, inl, inr, ℕ, zero, suc, List, [], ◌∷◌, length, get_or, slice_set, refl, sym, ◌∙◌, subst, ap, arith}
use Rattle.std.specs.FinMap.{empty}
use Rattle.ovs_types.specs.Schema.{SchemaValue}
use Rattle.ovs_rows.specs.Row.{no_rows}
use Rattle.ovs_links.specs.Chains.{IsChain}
use Rattle.ovs_links.specs.Outcomes.{taken_all}
use Rattle.ovs_links.specs.Settling.{chain_of, after_settle}
use Rattle.ovs_links.specs.Sets.{Holds}
use Rattle.ovs_links.specs.Store.{Stored, IsStore, start_in, tables_of}
use Rattle.ovs_links.specs.declared.link.Link.{Link}
use Rattle.ovs_links.proofs.ChainLemmas.{holds_by_prev, longest_from_no_next}
use Rattle.ovs_links.proofs.ChainOutcomes.{followed_is_whole}
use Rattle.ovs_links.proofs.GrowLemmas.{head_from_start}
use Rattle.ovs_source.specs.Commits.{IsSource}
use Rattle.ovs_source.proofs.Histories.{source_done}
use Rattle.ovs_world.specs.Deliveries.{Scene, Move, Tell, Feed, Choke, Hear, Does, DoesAll, holding}
use Rattle.ovs_world.specs.Nodes.{IsNode, IsTier, IsSettled, node_at, held}
use Rattle.ovs_world.specs.Worlds.{empty_store}
use Rattle.ovs_world.proofs.Faithful.{none_held}

-- the source is
pub source_settled : (s : Stored) → IsSource s → IsStore s → IsSettled s
source_settled s is store =
    let done = source_done s is.history is.is in
    record {
      start = start_in s;
      opening = done.opening;
      longest = longest_from_no_next (Holds s.links) (holds_by_prev s.links) (tables_of s) (start_in s) no_rows s.folded store.chain
          (λ l held at fits. done.ends l held (at ∙ head_from_start s.folded));
    }

-- and a store that has settled
pub settled_store : (s : Stored) → IsStore (after_settle s) → IsSettled (after_settle s)
unfolding chain_of
settled_store s store = (followed_is_whole (after_settle s) store).longest

-- and one with no link
pub none_settled : (schema : SchemaValue) → IsSettled (empty_store schema)
none_settled schema = record {
  start = 0;
  opening = record { found = inl refl; greatest = λ l o. absurd (none_held l o.member) };
  longest = record { chain = record { members = tt; joined = tt }; longest = none };
}
  where
    none : (ms : List Link) → IsChain schema.description.tables 0 no_rows (Holds empty) ms → length ms ≤ 0
    none [] c = omega arith
    none (m ∷ ms) c = absurd (none_held m c.members.0)

-- it is as it was, or, if it is a store, it is settled
abbrev pub Stays : Stored → Stored → Type 0
Stays s t = (t ≡ s) ⊎ (IsStore t → IsSettled t)

abbrev pub Settle : List Stored → List Stored → Type 0
Settle = AllZip Stays

pub stays_settled : (s x t : Stored) → t ≡ after_settle x → Stays s t
stays_settled s x t e = inr (λ store. subst IsSettled (sym e) (settled_store x (subst IsStore e store)))

pub settle_none : (ss : List Stored) → Settle ss ss
settle_none [] = tt
settle_none (s ∷ ss) = (inl refl, settle_none ss)

settle_on : (ss ts us : List Stored) → Settle ss ts → Settle ts us → Settle ss us
settle_on [] [] [] a b = tt
settle_on [] [] (u ∷ us) a b = absurd b
settle_on [] (t ∷ ts) us a b = absurd a
settle_on (s ∷ ss) [] us a b = absurd a
settle_on (s ∷ ss) (t ∷ ts) [] a b = absurd b
settle_on (s ∷ ss) (t ∷ ts) (u ∷ us) a b = (one b.0, settle_on ss ts us a.1 b.1)
  where
    one : Stays t u → Stays s u
    one (inl e) = subst (Stays s) (sym e) a.0
    one (inr f) = inr f

pub settle_set : (ss : List Stored) (i : ℕ) (t : Stored) → ((s : Stored) → Stays s t) → Settle ss (slice_set ss i t)
settle_set [] i t f = tt
settle_set (s ∷ ss) zero t f = (f s, settle_none ss)
settle_set (s ∷ ss) (suc i) t f = (inl refl, settle_set ss i t f)

settle_holding : (ss : List Stored) (i : ℕ) (ls : List Link) → Settle ss (holding ss i ls)
settle_holding [] i ls = tt
settle_holding (s ∷ ss) zero ls = (stays_settled s (taken_all s ls) (held s ls) refl, settle_none ss)
settle_holding (s ∷ ss) (suc i) ls = (inl refl, settle_holding ss i ls)

settle_move : (source : Stored) (v : Move) (a b : Scene) → Does source v a b → Settle a.relays b.relays
settle_move source Tell a b d = subst (Settle a.relays) (sym d.2) (settle_none a.relays)
settle_move source (Feed n) a b d = subst (Settle a.relays) (sym (ap (λ (x : Scene). x.relays) d.1.2)) (settle_none a.relays)
settle_move source (Choke n) a b d = subst (Settle a.relays) (sym (ap (λ (x : Scene). x.relays) d.2)) (settle_none a.relays)
settle_move source (Hear ls) a b d = subst (Settle a.relays) (sym d.1) (settle_holding a.relays (a.session.relay - 1) ls)

pub settle_moves : (source : Stored) (vs : List Move) (a b : Scene) → DoesAll source vs a b → Settle a.relays b.relays
settle_moves source [] a b d = subst (Settle a.relays) (sym (ap (λ (x : Scene). x.relays) d)) (settle_none a.relays)
settle_moves source (v ∷ vs) a c d = settle_on a.relays d.0.relays c.relays (settle_move source v a d.0 d.1) (settle_moves source vs d.0 c d.2)

-- the nodes of a tier are settled, if those before were, but for those that have settled
pub all_settled : (source : Stored) (ss ts : List Stored) → IsTier source ts → Settle ss ts → ((n : ℕ) → IsSettled (node_at source ss n)) → (n : ℕ) → IsSettled (node_at source ts n)
all_settled source ss ts tier settle all zero = source_settled source tier.is_source tier.store
all_settled source ss ts tier settle all (suc n) = at ss ts tier.each settle n (all (suc n))
  where
    one : (s t : Stored) → IsNode source t → Stays s t → IsSettled s → IsSettled t
    one s t node (inl e) is = subst IsSettled (sym e) is
    one s t node (inr f) is = f node.store

    at : (ss ts : List Stored) → AllByRecursion (IsNode source) ts → Settle ss ts → (n : ℕ) → IsSettled (get_or ss n source) → IsSettled (get_or ts n source)
    at [] [] each z n is = is
    at [] (t ∷ ts) each z n is = absurd z
    at (s ∷ ss) [] each z n is = absurd z
    at (s ∷ ss) (t ∷ ts) each z zero is = one s t each.0 z.0 is
    at (s ∷ ss) (t ∷ ts) each z (suc n) is = at ss ts each.1 z.1 n is

-- they are, where the source's chain has grown and the relays are as they were
pub settled_beside : (source more : Stored) (ss : List Stored) → IsSource more → IsStore more → ((n : ℕ) → IsSettled (node_at source ss n)) → (n : ℕ) → IsSettled (node_at more ss n)
settled_beside source more ss is store all zero = source_settled more is store
settled_beside source more ss is store all (suc n) = at ss n (all (suc n))
  where
    at : (ss : List Stored) (n : ℕ) → IsSettled (get_or ss n source) → IsSettled (get_or ss n more)
    at [] n s = source_settled more is store
    at (x ∷ xs) zero s = s
    at (x ∷ xs) (suc n) s = at xs n s
