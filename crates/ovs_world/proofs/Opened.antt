-- The sessions of a world.
use Rattle.std.specs.List.{AllByRecursion}
use Rattle.std.proofs.lemmas.List.{take_at}
use Rattle.std.proofs.Common.{◌≡◌, ◌≢◌, ◌≤◌, ◌<◌, ◌-◌, ℕ, zero, suc, List, [], ◌∷◌, ◌++◌, Option, Some, None, Ok, length, take, get_or, slice_set, get_or-set_other, refl, sym, ◌∙◌, ap, subst, arith}
use Rattle.std.specs.Prelude.{slice_get}
use Rattle.std.proofs.lemmas.List.{set-set}
use Rattle.ovs_links.specs.Store.{Stored}
use Rattle.ovs_types.specs.SchemaReading.{read_description}
use Rattle.ovs_links.specs.Steps.{FoldedValue}
use Rattle.ovs_reader.specs.Session.{MayBeShown}
use Rattle.ovs_world.specs.Carrying.{Line, IsWhole}
use Rattle.ovs_world.specs.Leading.{IsLed}
use Rattle.ovs_world.specs.Sessions.{Opens}
use Rattle.ovs_world.proofs.Led.{led_grows, led_opened}
use Rattle.ovs_world.specs.Deliveries.{IsBetween, IsScene, IsQuiet}
use Rattle.ovs_world.specs.Nodes.{IsNode, IsTier, Grow, node_at, folded_in}
use Rattle.ovs_world.specs.Worlds.{IsWorld, IsOpen, GoesOn, IsOpenIn, StandsAt}
use Rattle.ovs_world.specs.declared.sim_session.SimSession.{SimSession}
use Rattle.ovs_world.proofs.Scenes.{node_of, length_grow, node_grows, any_default}

all_set : {X : Type 0} (P : X → Type 0) (xs : List X) (i : ℕ) (x : X) → AllByRecursion P xs → P x → AllByRecursion P (slice_set xs i x)
all_set P [] i x a p = a
all_set P (y ∷ ys) zero x a p = (p, a.1)
all_set P (y ∷ ys) (suc i) x a p = (a.0, all_set P ys i x a.1 p)

pub all_push : {X : Type 0} (P : X → Type 0) (xs : List X) (x : X) → AllByRecursion P xs → P x → AllByRecursion P (xs ++ x ∷ [])
all_push P [] x a p = (p, tt)
all_push P (y ∷ xs) x a p = (a.0, all_push P xs x a.1 p)

pub all_weaker : {X : Type 0} (P Q : X → Type 0) (xs : List X) → ((x : X) → P x → Q x) → AllByRecursion P xs → AllByRecursion Q xs
all_weaker P Q [] f a = tt
all_weaker P Q (x ∷ xs) f a = (f x a.0, all_weaker P Q xs f a.1)

between_grows : (source : Stored) (ss ts : List Stored) (s : SimSession) → IsTier source ts → Grow ss ts → IsBetween source ss s → IsBetween source ts s
between_grows source ss ts s tier grow is =
    let long = length_grow ss ts grow in
    let relay = is.relay.1 in
    let upstream = is.upstream in
    record {
      relay = (is.relay.0, omega (arith, relay, long));
      upstream = omega (arith, upstream, long);
      led = led_grows source (node_at source ss s.upstream) (node_at source ts s.upstream) s (node_grows source ss ts tier.store grow s.upstream) is.led;
    }

open_grows : (source : Stored) (ss ts : List Stored) (o : Option SimSession) → IsTier source ts → Grow ss ts → IsOpen source ss o → IsOpen source ts o
open_grows source ss ts None tier grow is = is
open_grows source ss ts (Some s) tier grow is = (between_grows source ss ts s tier grow is.0, is.1)

pub sessions_grow : (source : Stored) (ss ts : List Stored) (os : List (Option SimSession)) → IsTier source ts → Grow ss ts → AllByRecursion (IsOpen source ss) os → AllByRecursion (IsOpen source ts) os
sessions_grow source ss ts os tier grow each = all_weaker (IsOpen source ss) (IsOpen source ts) os (λ x r. open_grows source ss ts x tier grow r) each

-- some relays took more, and one session is another
pub sessions_after : (source : Stored) (ss ts : List Stored) (os : List (Option SimSession)) (i : ℕ) (o : Option SimSession) → IsTier source ts → Grow ss ts
    → AllByRecursion (IsOpen source ss) os → IsOpen source ts o → AllByRecursion (IsOpen source ts) (slice_set os i o)
sessions_after source ss ts os i o tier grow each is =
    all_set (IsOpen source ts) os i o (sessions_grow source ss ts os tier grow each) is

pub sessions_cut : (source : Stored) (ss : List Stored) (os : List (Option SimSession)) (i : ℕ) → AllByRecursion (IsOpen source ss) os → AllByRecursion (IsOpen source ss) (slice_set os i None)
sessions_cut source ss os i each = all_set (IsOpen source ss) os i None each tt

pub open_at : (source : Stored) (ss : List Stored) (os : List (Option SimSession)) (n : ℕ) (s : SimSession) → AllByRecursion (IsOpen source ss) os → StandsAt os n s → IsOpen source ss (Some s)
open_at source ss os zero s each at = absurd at
open_at source ss os (suc n) s each at = by os n each at
  where
    by : (os : List (Option SimSession)) (n : ℕ) → AllByRecursion (IsOpen source ss) os → slice_get os n ≡ Some (Some s) → IsOpen source ss (Some s)
    by [] n each e = absurd (let f : None ≡ Some (Some s) = e in cc)
    by (o ∷ os) zero each e = subst (IsOpen source ss) (let f : o ≡ Some s = cc e in f) each.0
    by (o ∷ os) (suc n) each e = by os n each.1 e

get_is : (os : List (Option SimSession)) (i : ℕ) (d o : Option SimSession) → i < length os → get_or os i d ≡ o → slice_get os i ≡ Some o
get_is [] i d o lt e = absurd (omega (arith, lt))
get_is (x ∷ os) zero d o lt e = ap Some e
get_is (x ∷ os) (suc i) d o lt e = get_is os i d o (omega (arith, lt)) e

pub open_is : (os : List (Option SimSession)) (n : ℕ) (d : Option SimSession) (s : SimSession) → 0 < n → n ≤ length os → get_or os (n - 1) d ≡ Some s → StandsAt os n s
open_is os zero d s lt le e = absurd (omega (arith, lt))
open_is os (suc i) d s lt le e = get_is os i d (Some s) (omega (arith, le)) (ap (λ k. get_or os k d) (before i) ∙ e)
  where
    before : (i : ℕ) → i ≡ suc i - 1
    before i = omega arith

at_place : (os : List (Option SimSession)) (i : ℕ) (d o : Option SimSession) → slice_get os i ≡ Some o → get_or os i d ≡ o
at_place [] i d o e = absurd (let f : None ≡ Some o = e in cc)
at_place (x ∷ os) zero d o e = cc e
at_place (x ∷ os) (suc i) d o e = at_place os i d o e

-- where no session stands that goes on, none is open
pub none_is : (source : Stored) (ss : List Stored) (os : List (Option SimSession)) (n : ℕ) (d : Option SimSession) → ¬ (GoesOn source ss (get_or os (n - 1) d)) → (s : SimSession) → ¬ (IsOpenIn source ss os n s)
none_is source ss os zero d gone s is = is.0
none_is source ss os (suc i) d gone s is =
    gone (subst (GoesOn source ss) (sym (ap (λ k. get_or os k d) (before i) ∙ at_place os i d (Some s) is.0)) is.1)
  where
    before : (i : ℕ) → suc i - 1 ≡ i
    before i = omega arith

-- a number above all is none's
pub none_above : (source : Stored) (ss : List Stored) (os : List (Option SimSession)) (n : ℕ) → length os < n → (s : SimSession) → ¬ (IsOpenIn source ss os n s)
none_above source ss os zero above s is = is.0
none_above source ss os (suc i) above s is = past os i (omega (arith, above)) is.0
  where
    past : (os : List (Option SimSession)) (i : ℕ) → length os ≤ i → slice_get os i ≡ Some (Some s) → ⊥
    past [] i le e = absurd (let f : None ≡ Some (Some s) = e in cc)
    past (o ∷ os) zero le e = absurd (omega (arith, le))
    past (o ∷ os) (suc i) le e = past os i (omega (arith, le)) e

-- a session that stands here goes on, where what is here does
pub goes_here : (source : Stored) (ss : List Stored) (os : List (Option SimSession)) (n : ℕ) (d : Option SimSession) (s : SimSession) → StandsAt os n s → GoesOn source ss (get_or os (n - 1) d) → GoesOn source ss (Some s)
goes_here source ss os zero d s at goes = absurd at
goes_here source ss os (suc i) d s at goes = subst (GoesOn source ss) (ap (λ k. get_or os k d) (before i) ∙ at_place os i d (Some s) at) goes
  where
    before : (i : ℕ) → suc i - 1 ≡ i
    before i = omega arith

pub any_slot : (os : List (Option SimSession)) (i : ℕ) (d e : Option SimSession) → i < length os → get_or os i d ≡ get_or os i e
any_slot [] i d e lt = absurd (omega (arith, lt))
any_slot (o ∷ os) zero d e lt = refl
any_slot (o ∷ os) (suc i) d e lt = any_slot os i d e (omega (arith, lt))

-- what is so of all sessions is so of this one
pub open_item : (P : Option SimSession → Type 0) (os : List (Option SimSession)) (i : ℕ) (d : Option SimSession) → AllByRecursion P os → i < length os → P (get_or os i d)
open_item P [] i d each lt = absurd (omega (arith, lt))
open_item P (o ∷ os) zero d each lt = each.0
open_item P (o ∷ os) (suc i) d each lt = open_item P os i d each.1 (omega (arith, lt))

pub open_first : (os : List (Option SimSession)) (n : ℕ) (s : SimSession) → StandsAt os n s → 1 ≤ n
open_first os zero s at = absurd at
open_first os (suc i) s at = omega arith

pub open_within : (os : List (Option SimSession)) (n : ℕ) (s : SimSession) → StandsAt os n s → n - 1 < length os
open_within os zero s at = absurd at
open_within os (suc i) s at = let lt = within os i at in omega (arith, lt)
  where
    within : (os : List (Option SimSession)) (i : ℕ) → slice_get os i ≡ Some (Some s) → i < length os
    within [] i e = absurd (let f : None ≡ Some (Some s) = e in cc)
    within (o ∷ os) zero e = omega arith
    within (o ∷ os) (suc i) e = let lt = within os i e in omega (arith, lt)

-- ---- worlds after a delivery

-- a vector that was lent as a slice of the same length
pub lent : {X : Type 0} (new old : List X) (n : ℕ) (rest : List X) → n ≡ length old → length new ≡ length old → take n (new ++ rest) ≡ new
lent new old n rest is same = take_at new rest n (same ∙ sym is)

pub between_in : (source : Stored) (ss : List Stored) (os : List (Option SimSession)) (n : ℕ) (s : SimSession) → IsTier source ss → AllByRecursion (IsOpen source ss) os → StandsAt os n s
    → IsScene source ss s × IsQuiet s
between_in source ss os n s tier each at = let is = open_at source ss os n s each at in (record { tier = tier; between = is.0 }, is.1)

pub world_stopped : (source : Stored) (fresh : ℕ) (ss ts us : List Stored) (os ps : List (Option SimSession)) (i : ℕ) → IsWorld (record { source = source; fresh = fresh; relays = ss; sessions = os })
    → IsTier source ts → Grow ss ts → us ≡ ts → ps ≡ slice_set os i None → IsWorld (record { source = source; fresh = fresh; relays = us; sessions = ps })
world_stopped source fresh ss ts us os ps i w tier grow us_is ps_is =
    subst (λ (x : List Stored). IsWorld (record { source = source; fresh = fresh; relays = x; sessions = ps })) (sym us_is)
    (subst (λ (x : List (Option SimSession)). IsWorld (record { source = source; fresh = fresh; relays = ts; sessions = x })) (sym ps_is)
    (record { tier = tier; sessions = sessions_after source ss ts os i None tier grow w.sessions tt }))

pub world_brought : (source : Stored) (fresh : ℕ) (ss ts us : List Stored) (os ps : List (Option SimSession)) (i : ℕ) (s : SimSession) → IsWorld (record { source = source; fresh = fresh; relays = ss; sessions = os })
    → IsTier source ts → Grow ss ts → IsScene source ts s → IsQuiet s → us ≡ ts → ps ≡ slice_set os i None → IsWorld (record { source = source; fresh = fresh; relays = us; sessions = slice_set ps i (Some s) })
world_brought source fresh ss ts us os ps i s w tier grow stands heard us_is ps_is =
    subst (λ (x : List Stored). IsWorld (record { source = source; fresh = fresh; relays = x; sessions = slice_set ps i (Some s) })) (sym us_is)
    (subst (λ (x : List (Option SimSession)). IsWorld (record { source = source; fresh = fresh; relays = ts; sessions = x })) (sym (ap (λ (x : List (Option SimSession)). slice_set x i (Some s)) ps_is ∙ set-set os i None (Some s)))
    (record { tier = tier; sessions = sessions_after source ss ts os i (Some s) tier grow w.sessions (stands.between, heard) }))

pub world_opened : (source : Stored) (fresh : ℕ) (ss : List Stored) (os ps : List (Option SimSession)) (s : SimSession) → IsWorld (record { source = source; fresh = fresh; relays = ss; sessions = os })
    → IsBetween source ss s → IsQuiet s → ps ≡ os ++ Some s ∷ [] → IsWorld (record { source = source; fresh = fresh; relays = ss; sessions = ps })
world_opened source fresh ss os ps s w between heard ps_is =
    subst (λ (x : List (Option SimSession)). IsWorld (record { source = source; fresh = fresh; relays = ss; sessions = x })) (sym ps_is)
    (record { tier = w.tier; sessions = all_push (IsOpen source ss) os (Some s) w.sessions (between, heard) })

-- a session that was opened between a relay and another node
pub opened_between : (source node : Stored) (ss : List Stored) (relay upstream asked : ℕ) (s : SimSession) → IsTier source ss → node ≡ node_at source ss upstream → (0 < relay) × (relay ≤ length ss)
    → upstream ≤ length ss → Opens (folded_in node) relay upstream asked s → MayBeShown s.reader (folded_in node) → read_description s.up.schema.json ≡ Ok s.up.schema.description → IsBetween source ss s
opened_between source node ss relay upstream asked s tier node_is is_relay is_node opens shown says =
    let led = led_opened source node (subst (IsNode source) (sym node_is) (node_of source ss tier upstream)) tier.is_source relay upstream asked s opens shown says in
    record {
      relay = (omega (arith, opens.ends.0, is_relay.0), omega (arith, opens.ends.0, is_relay.1));
      upstream = omega (arith, opens.ends.1, is_node);
      led = subst (λ n. IsLed source (node_at source ss n) s) (sym opens.ends.1) (subst (λ (n : Stored). IsLed source n s) node_is led);
    }

pub opened_quiet : (f : FoldedValue) (relay upstream asked : ℕ) (s : SimSession) → Opens f relay upstream asked s → IsQuiet s
opened_quiet f relay upstream asked s opens = record {
  heard = ap (λ (l : Line). l.framing.waiting) opens.reply.2 ∙ opens.idle.0.0;
  whole = subst IsWhole (sym (ap (λ (l : Line). l.framing.ending) opens.reply.2 ∙ opens.idle.0.1)) tt;
}

-- a relay's store is the node of its number
pub relay_at : (source : Stored) (ss : List Stored) (r : ℕ) (d : Stored) → 0 < r → r ≤ length ss → get_or ss (r - 1) d ≡ node_at source ss r
relay_at source ss zero d lt le = absurd (omega (arith, lt))
relay_at source ss (suc i) d lt le = ap (λ k. get_or ss k d) (before i) ∙ any_default ss i d source (omega (arith, le))
  where
    before : (i : ℕ) → suc i - 1 ≡ i
    before i = omega arith

-- where a relay has another store, the other nodes are as they were
pub other_node : (source : Stored) (ss : List Stored) (r : ℕ) (t : Stored) → 0 < r → (n : ℕ) → n ≢ r → node_at source ss n ≡ node_at source (slice_set ss (r - 1) t) n
other_node source ss r t first zero other = refl
other_node source ss r t first (suc i) other =
    let apart : i ≢ r - 1 = λ e. other (omega (arith, e, first)) in
    sym (get_or-set_other ss (r - 1) i t source apart)

-- what is so of the sessions of a world, where its parts are lent
pub lent_open : (source lent : Stored) (ss ts : List Stored) (os ps : List (Option SimSession)) → lent ≡ source → ts ≡ ss → ps ≡ os → AllByRecursion (IsOpen source ss) os → AllByRecursion (IsOpen lent ts) ps
lent_open source lent ss ts os ps a b c each =
    subst (λ (x : Stored). AllByRecursion (IsOpen x ts) ps) (sym a) (subst (λ (x : List Stored). AllByRecursion (IsOpen source x) ps) (sym b)
    (subst (λ (x : List (Option SimSession)). AllByRecursion (IsOpen source ss) x) (sym c) each))

pub open_back : (source lent : Stored) (ss ts : List Stored) (os ps : List (Option SimSession)) (n : ℕ) (s : SimSession) → lent ≡ source → ts ≡ ss → ps ≡ os → IsOpenIn lent ts ps n s → IsOpenIn source ss os n s
open_back source lent ss ts os ps n s a b c is =
    subst (λ (x : Stored). IsOpenIn x ss os n s) a (subst (λ (x : List Stored). IsOpenIn lent x os n s) b (subst (λ (x : List (Option SimSession)). IsOpenIn lent ts x n s) c is))

pub none_back : (source lent : Stored) (ss ts : List Stored) (os ps : List (Option SimSession)) (n : ℕ) → lent ≡ source → ts ≡ ss → ps ≡ os → ((s : SimSession) → ¬ (IsOpenIn lent ts ps n s))
    → (s : SimSession) → ¬ (IsOpenIn source ss os n s)
none_back source lent ss ts os ps n a b c none s is = none s (open_back lent source ts ss ps os n s (sym a) (sym b) (sym c) is)
