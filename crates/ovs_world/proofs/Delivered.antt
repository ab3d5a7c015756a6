-- What the calls of a delivery do, move by move.
use Rattle.std.specs.List.{AllByRecursion}
use Rattle.std.proofs.Common.{◌≡◌, ◌≤◌, ◌<◌, ◌-◌, ⊎_elim, inl, inr, ℕ, zero, suc, true, false, Option, Some, None, List, [], ◌∷◌, length, map, get_or, slice_set, refl, sym, ◌∙◌, ap, subst, arith}
use Rattle.std.proofs.lemmas.List.{length-set}
use Rattle.ovs_links.specs.Steps.{FoldedValue}
use Rattle.ovs_links.specs.Store.{Stored}
use Rattle.ovs_links.specs.declared.link.Link.{Link}
use Rattle.ovs_reader.specs.Session.{SessionValue, MayBeShown}
use Rattle.ovs_reader.specs.Telling.{moved_to, AreToldReadably}
use Rattle.ovs_reader.specs.declared.subscription.Subscription.{Subscription}
use Rattle.ovs_upstream.specs.declared.up_event.UpEvent.{UpEvent}
use Rattle.ovs_upstream.specs.declared.up_event.UpEvent.TheVariants.{Links, Send, ReplyFor, Locked, Stolen, Nothing}
use Rattle.ovs_wire.specs.declared.message.Message.{Message}
use Rattle.ovs_wire.specs.Framing.{Framing}
use Rattle.ovs_world.specs.Carrying.{Line, IsWhole, Carries, Moves, Chokes, SendsAll, SendsAny}
use Rattle.ovs_world.specs.Deliveries.{scene, Tell, Feed, Choke, Hear, Does, Leads, holding, followed, IsToldOut, IsQuiet, IsScene}
use Rattle.ovs_world.specs.Leading.{IsLed}
use Rattle.ovs_world.specs.Nodes.{IsNode, Extends, node_at, folded_in, held, plus, counts_of}
use Rattle.ovs_world.specs.Sessions.{IsSilent, Replies, Pumps, PumpsIdle, Goes, HearsNext, is_behind, with_line}
use Rattle.ovs_world.specs.declared.holding.Taken.{Taken}
use Rattle.ovs_world.specs.declared.sim_session.SimSession.{SimSession}
use Rattle.ovs_world.proofs.Led.{led_grows, led_pumped, led_fed}
use Rattle.ovs_world.proofs.Moving.{leads_none, leads_one}
use Rattle.ovs_world.proofs.Scenes.{node_of, grow_set, tier_set, holding_is, any_default, node_grows}

-- ---- what a session keeps

goes_ends : (f : FoldedValue) (s t : SimSession) (event : UpEvent) → Goes f s event t → (t.relay ≡ s.relay) × (t.upstream ≡ s.upstream)
goes_ends f s t (Links ls) goes = (ap (λ (x : SimSession). x.relay) goes, ap (λ (x : SimSession). x.upstream) goes)
goes_ends f s t (Send m) goes = (goes.ends.0, goes.ends.1)
goes_ends f s t (ReplyFor n a) goes = (ap (λ (x : SimSession). x.relay) goes, ap (λ (x : SimSession). x.upstream) goes)
goes_ends f s t (Locked name) goes = (ap (λ (x : SimSession). x.relay) goes, ap (λ (x : SimSession). x.upstream) goes)
goes_ends f s t (Stolen name) goes = (ap (λ (x : SimSession). x.relay) goes, ap (λ (x : SimSession). x.upstream) goes)
goes_ends f s t Nothing goes = (ap (λ (x : SimSession). x.relay) goes, ap (λ (x : SimSession). x.upstream) goes)

pub hears_ends : (f : FoldedValue) (s t : SimSession) (links : List Link) → HearsNext f s links t → (t.relay ≡ s.relay) × (t.upstream ≡ s.upstream)
hears_ends f s t links next = goes_ends f _ t next.hears.event next.hears.goes

any_framing : (old new : Line) (o : Option Message) → SendsAny old o new → new.framing ≡ old.framing
any_framing old new None sends = ap (λ (l : Line). l.framing) sends
any_framing old new (Some m) sends = ap (λ (l : Line). l.framing) sends.2

all_framing : (old new : Line) (ms : List Message) → SendsAll old ms new → new.framing ≡ old.framing
all_framing old new [] sends = ap (λ (l : Line). l.framing) sends
all_framing old new (m ∷ ms) sends = all_framing sends.0 new ms sends.2 ∙ ap (λ (l : Line). l.framing) sends.1.2

goes_framing : (f : FoldedValue) (s t : SimSession) (event : UpEvent) → Goes f s event t → t.downward.framing ≡ s.downward.framing
goes_framing f s t (Links ls) goes = ap (λ (x : SimSession). x.downward.framing) goes
goes_framing f s t (Send m) goes =
    ⊎_elim (λ (silent : IsSilent f s t). ap (λ (l : Line). l.framing) silent.downward) (λ (replies : Replies f s m t). any_framing s.downward t.downward _ replies.reply) goes.answered
goes_framing f s t (ReplyFor n a) goes = ap (λ (x : SimSession). x.downward.framing) goes
goes_framing f s t (Locked name) goes = ap (λ (x : SimSession). x.downward.framing) goes
goes_framing f s t (Stolen name) goes = ap (λ (x : SimSession). x.downward.framing) goes
goes_framing f s t Nothing goes = ap (λ (x : SimSession). x.downward.framing) goes

-- one message less waits
pub hears_fewer : (f : FoldedValue) (s t : SimSession) (links : List Link) → HearsNext f s links t → length t.downward.framing.waiting < length s.downward.framing.waiting
hears_fewer f s t links next =
    let waits : length s.downward.framing.waiting ≡ length (next.received.0 ∷ next.line.framing.waiting) = ap length next.received.2.0 in
    let same : length t.downward.framing.waiting ≡ length next.line.framing.waiting = ap (λ (x : Framing). length x.waiting) (goes_framing f _ t next.hears.event next.hears.goes) in
    omega (arith, waits, same)

-- and what is to come is framed as it was
pub hears_ending : (f : FoldedValue) (s t : SimSession) (links : List Link) → HearsNext f s links t → t.downward.framing.ending ≡ s.downward.framing.ending
hears_ending f s t links next = ap (λ (x : Framing). x.ending) (goes_framing f _ t next.hears.event next.hears.goes) ∙ next.received.2.1

-- ---- the relay's store

-- the place of a relay
place_of : (r : ℕ) → 0 < r → (i : ℕ) × (r ≡ suc i) × (r - 1 ≡ i)
place_of zero lt = absurd (omega (arith, lt))
place_of (suc i) lt = (i, refl, omega arith)

module _ (source : Stored) (relays : List Stored) (s t : SimSession) (stands : IsScene source relays s) (same : t.relay ≡ s.relay) where
  abbrev at : ℕ
  at = t.relay - 1

  place : (i : ℕ) × (s.relay ≡ suc i) × (s.relay - 1 ≡ i)
  place = place_of s.relay stands.between.relay.0

  at_is : at ≡ s.relay - 1
  at_is = ap (λ n. n - 1) same

  pub at_within : at < length relays
  at_within = let long = stands.between.relay.1 in let first = place.1 in let second = place.2 in let here = at_is in omega (arith, long, first, second, here)

  -- it is the node of the relay's number
  pub at_node : (d : Stored) → get_or relays at d ≡ node_at source relays s.relay
  at_node d =
      any_default relays at d source at_within ∙ ap (λ i. get_or relays i source) (at_is ∙ place.2) ∙ ap (λ n. node_at source relays n) (sym place.1)

  pub at_is_node : (d : Stored) → IsNode source (get_or relays at d)
  at_is_node d = subst (IsNode source) (sym (at_node d)) (node_of source relays stands.tier s.relay)

  pub at_held : (d : Stored) (links : List Link) → slice_set relays at (held (get_or relays at d) links) ≡ holding relays (s.relay - 1) links
  at_held d links = holding_is relays at d links at_within ∙ ap (λ i. holding relays i links) at_is

-- ---- a message is heard

pub after_hearing : (source node : Stored) (relays : List Stored) (s t : SimSession) (links : List Link) (d store : Stored) → IsScene source relays s → node ≡ node_at source relays s.upstream
    → HearsNext (folded_in node) s links t → IsLed source node t → IsNode source store → Extends (get_or relays (t.relay - 1) d) store → IsScene source (slice_set relays (t.relay - 1) store) t
after_hearing source node relays s t links d store stands node_is next led is_node extends =
    let ends = hears_ends (folded_in node) s t links next in
    let i = t.relay - 1 in
    let grow = grow_set source relays i d store stands.tier extends in
    let long : length (slice_set relays i store) ≡ length relays = length-set relays i store in
    let relay = stands.between.relay in
    let upstream = stands.between.upstream in
    let tier = tier_set source relays i store stands.tier is_node in
    record {
      tier = tier;
      between = record {
        relay = (omega (arith, ends.0, relay.0), omega (arith, ends.0, relay.1, long));
        upstream = omega (arith, ends.1, upstream, long);
        led = subst (λ n. IsLed source (node_at source (slice_set relays i store) n) t) (sym ends.1)
            (led_grows source (node_at source relays s.upstream) (node_at source (slice_set relays i store) s.upstream) t
            (node_grows source relays (slice_set relays i store) stands.tier.store grow s.upstream) (subst (λ (n : Stored). IsLed source n t) node_is led));
      };
    }

pub did_hear : (source node : Stored) (relays : List Stored) (s t : SimSession) (links : List Link) (d store : Stored) (counts told new : Taken) → IsScene source relays s → node ≡ node_at source relays s.upstream
    → HearsNext (folded_in node) s links t → store ≡ held (get_or relays (t.relay - 1) d) links → told ≡ counts_of (get_or relays (t.relay - 1) d) links → new ≡ plus counts told
    → (x : List Link) × Does source (Hear x) (scene relays s counts) (scene (slice_set relays (t.relay - 1) store) t new)
did_hear source node relays s t links d store counts told new stands node_is next is tells sums =
    let same = (hears_ends (folded_in node) s t links next).0 in (
      links,
      (
        subst (λ (n : Stored). HearsNext (folded_in n) s links t) node_is next,
        ap (slice_set relays (t.relay - 1)) is ∙ at_held source relays s t stands same d links,
        sums ∙ ap (plus counts) (tells ∙ ap (λ (n : Stored). counts_of n links) (at_node source relays s t stands same d)),
      ),
    )

-- ---- the node tells more

pumped_ends : (f : FoldedValue) (s t : SimSession) → PumpsIdle f s t → (t.relay ≡ s.relay) × (t.upstream ≡ s.upstream)
pumped_ends f s t (inl none) = (ap (λ (x : SimSession). x.relay) none.1, ap (λ (x : SimSession). x.upstream) none.1)
pumped_ends f s t (inr pumps) = (pumps.1.ends.0, pumps.1.ends.1)

pub pumped_framing : (f : FoldedValue) (s t : SimSession) → PumpsIdle f s t → t.downward.framing ≡ s.downward.framing
pumped_framing f s t (inl none) = ap (λ (x : SimSession). x.downward.framing) none.1
pumped_framing f s t (inr pumps) = all_framing s.downward t.downward _ pumps.1.told

pub quiet_framing : (s t : SimSession) → t.downward.framing ≡ s.downward.framing → IsQuiet s → IsQuiet t
quiet_framing s t same quiet = record { heard = ap (λ (x : Framing). x.waiting) same ∙ quiet.heard; whole = subst (λ (x : Framing). IsWhole x.ending) (sym same) quiet.whole }

module _ (source node : Stored) (relays : List Stored) (s t : SimSession) (stands : IsScene source relays s) (node_is : node ≡ node_at source relays s.upstream)
    (pumps : PumpsIdle (folded_in node) s t) where
  pub after_pumping : (s.downward.flight ≡ [] → is_behind (folded_in node) s ≡ false → AreToldReadably s.reader.monitors (folded_in node).steps) → MayBeShown t.reader (folded_in node) → IsScene source relays t
  after_pumping readable shown =
      let ends = pumped_ends (folded_in node) s t pumps in
      let relay = stands.between.relay in
      let upstream = stands.between.upstream in
      record {
        tier = stands.tier;
        between = record {
          relay = (omega (arith, ends.0, relay.0), omega (arith, ends.0, relay.1));
          upstream = omega (arith, ends.1, upstream);
          led = subst (λ n. IsLed source (node_at source relays n) t) (sym ends.1) (subst (λ (n : Stored). IsLed source n t) node_is (by pumps));
        };
      }
    where
      led : IsLed source node s
      led = subst (λ (n : Stored). IsLed source n s) (sym node_is) stands.between.led

      by : PumpsIdle (folded_in node) s t → IsLed source node t
      by (inl none) = subst (IsLed source node) (sym none.1) led
      by (inr tells) = led_pumped source node (subst (IsNode source) (sym node_is) (node_of source relays stands.tier s.upstream)) s t led tells.1
          (readable tells.0 tells.1.goes_on) shown

  pub did_pump : (counts : Taken) → Leads source 0 (scene relays s counts) (scene relays t counts)
  did_pump counts = by pumps
    where
      by : PumpsIdle (folded_in node) s t → Leads source 0 (scene relays s counts) (scene relays t counts)
      by (inl none) = subst (λ (x : SimSession). Leads source 0 (scene relays s counts) (scene relays x counts)) (sym none.1) (leads_none source (scene relays s counts))
      by (inr tells) = leads_one source Tell (scene relays s counts) (scene relays t counts) 0 refl
          (tells.0, subst (λ (n : Stored). Pumps (folded_in n) s t) node_is tells.1, refl, refl)

  -- where nothing is in flight then, nothing is left to be told, or the session is gone
  pub told_out : length t.downward.flight ≡ 0 → (counts : Taken) → IsToldOut (followed source (scene relays t counts)) t
  told_out none counts = subst (λ (f : FoldedValue). IsToldOut f t) followed_is (by pumps)
    where
      empty : (xs : List ℕ) → length xs ≡ 0 → xs ≡ []
      empty [] e = refl
      empty (x ∷ xs) e = absurd (omega (arith, e))

      followed_is : folded_in node ≡ followed source (scene relays t counts)
      followed_is = ap folded_in (node_is ∙ ap (λ n. node_at source relays n) (sym (pumped_ends (folded_in node) s t pumps).1))

      moved : (k : ℕ) (ms : List Subscription) → AllByRecursion (λ (m : Subscription). m.position ≡ k) (map (moved_to k) ms)
      moved k [] = tt
      moved k (m ∷ ms) = (refl, moved k ms)

      by : PumpsIdle (folded_in node) s t → IsToldOut (folded_in node) t
      by (inl still) = ⊎_elim
          (λ (some : 0 < length s.downward.flight). absurd (let same : length t.downward.flight ≡ length s.downward.flight = ap (λ (x : SimSession). length x.downward.flight) still.1 in omega (arith, some, same, none)))
          (λ (behind : is_behind (folded_in node) s ≡ true). inr (empty t.downward.flight none, ap (λ (x : SimSession). is_behind (folded_in node) x) still.1 ∙ behind)) still.0
      by (inr tells) = inl (
        empty t.downward.flight none,
        subst (λ (r : SessionValue). AllByRecursion (λ (m : Subscription). m.position ≡ length (folded_in node).steps) r.monitors) (sym tells.1.reader) (moved (length (folded_in node).steps) s.reader.monitors),
      )

-- ---- bytes reach the relay

pub after_feeding : (source : Stored) (relays : List Stored) (s t : SimSession) → IsScene source relays s → t ≡ with_line s t.downward
    → ((messages : List Message) → Carries s.downward messages → Carries t.downward messages) → IsScene source relays t
after_feeding source relays s t stands is keeps =
    subst (IsScene source relays) (sym is) (record {
      tier = stands.tier;
      between = record {
        relay = stands.between.relay;
        upstream = stands.between.upstream;
        led = led_fed source (node_at source relays s.upstream) s t.downward stands.between.led keeps;
      };
    })

pub did_feed : (source : Stored) (relays : List Stored) (s t : SimSession) (counts : Taken) (n : ℕ) → n ≤ length s.downward.flight → t ≡ with_line s t.downward → Moves s.downward n t.downward
    → Leads source n (scene relays s counts) (scene relays t counts)
did_feed source relays s t counts n within is moves =
    leads_one source (Feed n) (scene relays s counts) (scene relays t counts) n (omega arith)
    (within, (t.downward, moves, ap (λ (x : SimSession). scene relays x counts) is))

pub did_choke : (source : Stored) (relays : List Stored) (s t : SimSession) (counts : Taken) (n : ℕ) → t ≡ with_line s t.downward → Chokes s.downward n t.downward
    → Leads source n (scene relays s counts) (scene relays t counts)
did_choke source relays s t counts n is chokes =
    leads_one source (Choke n) (scene relays s counts) (scene relays t counts) n (omega arith)
    (t.downward, chokes, ap (λ (x : SimSession). scene relays x counts) is)
