-- Nodes of which some take links.
use Rattle.std.specs.List.{AllByRecursion}
use Rattle.std.proofs.Common.{◌≡◌, ◌<◌, ℕ, zero, suc, List, [], ◌∷◌, length, get_or, slice_set, refl, ◌∙◌, ap, arith}
use Rattle.ovs_links.proofs.GrowLemmas.{grows_itself, grows_on}
use Rattle.ovs_links.specs.Store.{Stored, IsStore}
use Rattle.ovs_links.specs.declared.link.Link.{Link}
use Rattle.ovs_world.specs.Deliveries.{holding}
use Rattle.ovs_world.specs.Nodes.{IsNode, Extends, IsTier, Grow, node_at, held}

-- ---- nodes

extends_itself : (s : Stored) → IsStore s → Extends s s
extends_itself s is = record { schema = refl; store = is; keeps = λ l h. h; grows = grows_itself s.folded }

extends_on : (s t u : Stored) → Extends s t → Extends t u → Extends s u
extends_on s t u a b = record {
  schema = b.schema ∙ a.schema;
  store = b.store;
  keeps = λ l h. b.keeps l (a.keeps l h);
  grows = grows_on s.folded t.folded u.folded a.grows b.grows;
}

source_node : (source : Stored) → IsStore source → IsNode source source
source_node source store = record { schema = refl; store = store; within = λ l held. held }

pub node_of : (source : Stored) (relays : List Stored) → IsTier source relays → (n : ℕ) → IsNode source (node_at source relays n)
node_of source relays tier zero = source_node source tier.store
node_of source relays tier (suc n) = at relays tier.each n
  where
    at : (ss : List Stored) → AllByRecursion (IsNode source) ss → (n : ℕ) → IsNode source (get_or ss n source)
    at [] a n = source_node source tier.store
    at (s ∷ ss) a zero = a.0
    at (s ∷ ss) a (suc n) = at ss a.1 n

pub grow_itself : (source : Stored) (relays : List Stored) → IsTier source relays → Grow relays relays
grow_itself source relays tier = each relays tier.each
  where
    each : (ss : List Stored) → AllByRecursion (IsNode source) ss → Grow ss ss
    each [] a = tt
    each (s ∷ ss) a = (extends_itself s a.0.store, each ss a.1)

pub grow_on : (ss ts us : List Stored) → Grow ss ts → Grow ts us → Grow ss us
grow_on [] [] [] a b = tt
grow_on [] [] (u ∷ us) a b = absurd b
grow_on [] (t ∷ ts) us a b = absurd a
grow_on (s ∷ ss) [] us a b = absurd a
grow_on (s ∷ ss) (t ∷ ts) [] a b = absurd b
grow_on (s ∷ ss) (t ∷ ts) (u ∷ us) a b = (extends_on s t u a.0 b.0, grow_on ss ts us a.1 b.1)

pub length_grow : (ss ts : List Stored) → Grow ss ts → length ss ≡ length ts
length_grow [] [] g = refl
length_grow [] (t ∷ ts) g = absurd g
length_grow (s ∷ ss) [] g = absurd g
length_grow (s ∷ ss) (t ∷ ts) g = let e = length_grow ss ts g.1 in omega (arith, e)

-- one relay is another store
pub grow_set : (source : Stored) (relays : List Stored) (i : ℕ) (d t : Stored) → IsTier source relays → Extends (get_or relays i d) t → Grow relays (slice_set relays i t)
grow_set source relays i d t tier more = each relays i tier.each more
  where
    each : (ss : List Stored) (i : ℕ) → AllByRecursion (IsNode source) ss → Extends (get_or ss i d) t → Grow ss (slice_set ss i t)
    each [] i a e = tt
    each (s ∷ ss) zero a e = (e, (rest ss a.1))
      where
        rest : (ss : List Stored) → AllByRecursion (IsNode source) ss → Grow ss ss
        rest [] a = tt
        rest (s ∷ ss) a = (extends_itself s a.0.store, rest ss a.1)
    each (s ∷ ss) (suc i) a e = (extends_itself s a.0.store, each ss i a.1 e)

pub tier_set : (source : Stored) (relays : List Stored) (i : ℕ) (t : Stored) → IsTier source relays → IsNode source t → IsTier source (slice_set relays i t)
tier_set source relays i t tier is = record { is_source = tier.is_source; store = tier.store; each = each relays i tier.each }
  where
    each : (ss : List Stored) (i : ℕ) → AllByRecursion (IsNode source) ss → AllByRecursion (IsNode source) (slice_set ss i t)
    each [] i a = a
    each (s ∷ ss) zero a = (is, a.1)
    each (s ∷ ss) (suc i) a = (a.0, each ss i a.1)

pub holding_is : (relays : List Stored) (i : ℕ) (d : Stored) (links : List Link) → i < length relays → slice_set relays i (held (get_or relays i d) links) ≡ holding relays i links
holding_is [] i d links lt = absurd (omega arith)
holding_is (s ∷ ss) zero d links lt = refl
holding_is (s ∷ ss) (suc i) d links lt = ap (λ x. s ∷ x) (holding_is ss i d links (omega arith))

pub any_default : (ss : List Stored) (i : ℕ) (d e : Stored) → i < length ss → get_or ss i d ≡ get_or ss i e
any_default [] i d e lt = absurd (omega arith)
any_default (s ∷ ss) zero d e lt = refl
any_default (s ∷ ss) (suc i) d e lt = any_default ss i d e (omega arith)

-- ---- a session whose node took more

pub node_grows : (source : Stored) (ss ts : List Stored) → IsStore source → Grow ss ts → (n : ℕ) → Extends (node_at source ss n) (node_at source ts n)
node_grows source ss ts store g zero = extends_itself source store
node_grows source ss ts store g (suc n) = at ss ts g n
  where
    at : (ss ts : List Stored) → Grow ss ts → (n : ℕ) → Extends (get_or ss n source) (get_or ts n source)
    at [] [] g n = extends_itself source store
    at [] (t ∷ ts) g n = absurd g
    at (s ∷ ss) [] g n = absurd g
    at (s ∷ ss) (t ∷ ts) g zero = g.0
    at (s ∷ ss) (t ∷ ts) g (suc n) = at ss ts g.1 n
