-- The source makes links: a commit, or one that begins a new epoch.
use Rattle.std.specs.List.{AllByRecursion}
use Rattle.std.proofs.Common.{◌≡◌, ◌≤◌, ◌<◌, ⊎_elim, inl, inr, ℕ, zero, suc, Bool, true, false, Option, Some, None, Ok, Err, List, [], ◌∷◌, ◌++◌, length, take, get_or, refl, sym, ◌∙◌, ap, subst, arith}
use Rattle.std.specs.Prelude.{slice_get}
use Rattle.std.proofs.lemmas.List.{take-append-le}
use Rattle.serde_json.specs.Data.{Data}
use Rattle.ovs_types.specs.Schema.{SchemaValue}
use Rattle.ovs_types.specs.declared.schema.Table.{Table}
use Rattle.ovs_rows.specs.Row.{Rows}
use Rattle.ovs_links.specs.Answers.{after_append}
use Rattle.ovs_links.specs.Chains.{head_after, start_of}
use Rattle.ovs_links.specs.Epochs.{EpochHistory, epochs_of, links_in}
use Rattle.ovs_links.specs.Restarting.{after_restart}
use Rattle.ovs_links.specs.Sets.{Among, Holds}
use Rattle.ovs_links.specs.Store.{Stored, IsStore, start_in, tables_of}
use Rattle.ovs_links.specs.declared.link.Link.{Link}
use Rattle.ovs_links.proofs.EpochLemmas.{Among-left}
use Rattle.ovs_links.proofs.GrowLemmas.{grows_by, grows_later}
use Rattle.ovs_source.specs.Commits.{IsSource, IsSourceOf, KeepsHistory}
use Rattle.ovs_source.specs.Transacting.{Asked, effect_in, LeadsTo, FindsNoRoom, TransactsTo}
use Rattle.ovs_source.specs.Trimming.{BeginsEpoch, TrimsTo}
use Rattle.ovs_source.specs.declared.error.SourceError.{SourceError}
use Rattle.ovs_source.specs.declared.error.SourceError.TheVariants.{IdTaken, RowIdsSpent, Full, NoMemory}
use Rattle.ovs_source.specs.declared.transacting.Outcome.{Outcome}
use Rattle.ovs_source.specs.declared.trim_error.TrimError.{TrimError}
use Rattle.ovs_source.specs.declared.trim_error.TrimError.TheVariants as trimming
use Rattle.ovs_upstream.specs.Lawful.{IsAt, IsLinkAt, Answers}
use Rattle.ovs_upstream.specs.Talk.{Talk, Schema, Reached, Update, Aside, Improper, talk_of}
use Rattle.ovs_upstream.specs.declared.up_session.SyncState.{SyncState}
use Rattle.ovs_upstream.specs.declared.up_session.SyncState.TheVariants.{Opening, Asking, At, Ended}
use Rattle.ovs_reader.specs.declared.subscription.Subscription.{Subscription}
use Rattle.ovs_wire.specs.declared.message.Message.{Message}
use Rattle.ovs_world.specs.Awaiting.{TellsPlace, TellsLink, TellLinks}
use Rattle.ovs_world.specs.Leading.{Awaits, IsLineOf, IsLed}
use Rattle.ovs_world.specs.Nodes.{Extends, IsNode, IsTier, folded_in, node_at}
use Rattle.ovs_world.specs.Sessions.{is_behind}
use Rattle.ovs_world.specs.Worlds.{IsOpen, IsWorld}
use Rattle.ovs_world.specs.declared.sim_session.SimSession.{SimSession}
use Rattle.ovs_world.proofs.Led.{led_grows}
use Rattle.ovs_world.proofs.Lines.{LineGoesOn, keeps_lines, begins_lines}

get_more : (ls more : List Link) (k : ℕ) (l : Link) → slice_get ls k ≡ Some l → slice_get (ls ++ more) k ≡ Some l
get_more [] more k l e = absurd (let n : None ≡ Some l = e in cc)
get_more (m ∷ ms) more zero l e = e
get_more (m ∷ ms) more (suc k) l e = get_more ms more k l e

long : (ls more : List Link) → length ls ≤ length (ls ++ more)
long [] more = omega arith
long (l ∷ ls) more = let t = long ls more in omega (arith, t)

module _ (tables : List Table) (ls more : List Link) (begins : start_of (ls ++ more) ≡ start_of ls) where
  at_more : (id k : ℕ) → IsAt ls id k → IsAt (ls ++ more) id k
  at_more id k at =
      (let le = long ls more in omega (arith, at.0, le), ap (head_after (start_of (ls ++ more))) (take-append-le k ls more at.0) ∙ ap (λ i. head_after i (take k ls)) begins ∙ at.1)

  link_more : (k id : ℕ) (d : Data) → IsLinkAt tables ls k id d → IsLinkAt tables (ls ++ more) k id d
  link_more k id d i = record { link = i.link; found = get_more ls more k i.link i.found; id_is = i.id_is; spells = i.spells }

  answers_more : (asked : ℕ) (known : Bool) (id : ℕ) (d : Data) (k : ℕ) → Answers tables ls asked known id d k → Answers tables (ls ++ more) asked known id d k
  answers_more asked true id d k (inl a) = inl (a.0, a.1, at_more asked k a.2)
  answers_more asked true id d k (inr a) = inr (a.0, a.1, at_more asked a.0 a.2, link_more a.0 id d a.3)
  answers_more asked false id d k (inl a) = inl (a.0 ∙ sym begins, a.1, a.2)
  answers_more asked false id d k (inr a) = inr (a.0, begins ∙ a.1, link_more 0 id d a.2)

  place_more : (asked k : ℕ) (t : Talk) → TellsPlace tables ls asked k t → TellsPlace tables (ls ++ more) asked k t
  place_more asked k (Reached known id d) a = answers_more asked known id d k a
  place_more asked k (Schema d) a = a
  place_more asked k (Update id d) a = a
  place_more asked k (Aside e) a = a
  place_more asked k Improper a = a

  update_more : (k : ℕ) (t : Talk) → TellsLink tables ls k t → TellsLink tables (ls ++ more) k t
  update_more k (Update id d) a = link_more k id d a
  update_more k (Reached known id d) a = a
  update_more k (Schema d) a = a
  update_more k (Aside e) a = a
  update_more k Improper a = a

  links_more : (k t : ℕ) (ms : List Message) → TellLinks tables ls k t ms → TellLinks tables (ls ++ more) k t ms
  links_more k t [] a = a
  links_more k t (m ∷ ms) a = (update_more k (talk_of m) a.0, links_more (suc k) t ms a.1)

awaits_more : (schema : SchemaValue) (ls more : List Link) → start_of (ls ++ more) ≡ start_of ls → (n asked : ℕ) (stage : SyncState) (monitors : List Subscription) (messages : List Message)
    → Awaits schema ls n asked stage monitors messages → Awaits schema (ls ++ more) n asked stage monitors messages
awaits_more schema ls more begins n asked Opening monitors messages a = a
awaits_more schema ls more begins n asked Asking monitors messages a = record {
  monitor = a.monitor;
  has = a.has;
  answer = a.answer;
  more = a.more;
  are = a.are;
  place = a.place;
  tells = place_more schema.description.tables ls more begins asked a.place (talk_of a.answer) a.tells;
  links = links_more schema.description.tables ls more begins a.place a.monitor.position a.more a.links;
}
awaits_more schema ls more begins n asked (At id) monitors messages a = record {
  monitor = a.monitor;
  has = a.has;
  place = a.place;
  stands = at_more schema.description.tables ls more begins id a.place a.stands;
  links = links_more schema.description.tables ls more begins a.place a.monitor.position messages a.links;
}
awaits_more schema ls more begins n asked Ended monitors messages a = a

-- ---- a source that has made a link

-- what was held still is, and each line goes on
pub record Makes (s t : Stored) : Type 0 where
  pub extends : Extends s t
  pub lines : (line : List Link) → IsLineOf s line → LineGoesOn t line

module _ (s t : Stored) (makes : Makes s t) where
  led_more : (node : Stored) (x : SimSession) → IsLed s node x → IsLed t node x
  led_more node x is =
      let goes = makes.lines is.line is.is_line in
      record {
        schema = is.schema ∙ sym makes.extends.schema;
        says = is.says;
        unknown = is.unknown;
        goes_on = is.goes_on;
        shown = is.shown;
        idle = is.idle;
        line = is.line ++ goes.0;
        is_line = goes.1;
        begun = is.begun ∙ sym goes.2;
        start = is.start;
        messages = is.messages;
        carried = is.carried;
        awaits = ⊎_elim (λ (silent : (is.messages ≡ []) × (is_behind (folded_in node) x ≡ true)). inl silent)
            (λ (a : Awaits s.schema is.line x.reader.shown x.up.asked x.up.stage x.reader.monitors is.messages).
            inr (subst (λ (v : SchemaValue). Awaits v (is.line ++ goes.0) x.reader.shown x.up.asked x.up.stage x.reader.monitors is.messages) (sym makes.extends.schema)
            (awaits_more s.schema is.line goes.0 goes.2 x.reader.shown x.up.asked x.up.stage x.reader.monitors is.messages a))) is.awaits;
      }

  -- ---- nodes

  each_more : (xs : List Stored) → AllByRecursion (IsNode s) xs → AllByRecursion (IsNode t) xs
  each_more [] a = tt
  each_more (x ∷ xs) a = (
    record { schema = a.0.schema ∙ sym makes.extends.schema; store = a.0.store; within = λ l held. makes.extends.keeps l (a.0.within l held) },
    each_more xs a.1,
  )

  -- ---- all of it

  module _ (relays : List Stored) where
    tier_more : IsSource t → IsTier s relays → IsTier t relays
    tier_more source tier = record { is_source = source; store = makes.extends.store; each = each_more relays tier.each }

    at_node : (n : ℕ) (x : SimSession) → n ≤ length relays → IsLed s (node_at s relays n) x → IsLed t (node_at t relays n) x
    at_node zero x le is = led_grows t s t x makes.extends (led_more s x is)
    at_node (suc i) x le is = subst (λ (v : Stored). IsLed t v x) (same relays i (omega (arith, le))) (led_more (get_or relays i s) x is)
      where
        same : (ss : List Stored) (i : ℕ) → i < length ss → get_or ss i s ≡ get_or ss i t
        same [] i lt = absurd (omega (arith, lt))
        same (y ∷ ss) zero lt = refl
        same (y ∷ ss) (suc i) lt = same ss i (omega (arith, lt))

    open_more : (o : Option SimSession) → IsOpen s relays o → IsOpen t relays o
    open_more None is = is
    open_more (Some x) is = (record { relay = is.0.relay; upstream = is.0.upstream; led = at_node x.upstream x is.0.upstream is.0.led }, is.1)

    sessions_more : (os : List (Option SimSession)) → AllByRecursion (IsOpen s relays) os → AllByRecursion (IsOpen t relays) os
    sessions_more [] a = tt
    sessions_more (o ∷ os) a = (open_more o a.0, sessions_more os a.1)

    pub world_made : (fresh rest : ℕ) (os : List (Option SimSession)) → IsSource t → IsWorld (record { source = s; fresh = fresh; relays = relays; sessions = os })
        → IsWorld (record { source = t; fresh = rest; relays = relays; sessions = os })
    world_made fresh rest os source w = record { tier = tier_more source w.tier; sessions = sessions_more os w.sessions }

-- ---- a transaction

-- the source is as it was, or its chain is longer by a link
abbrev pub Grown : Stored → Option Link → Stored → Type 0
Grown s None t = t ≡ s
Grown s (Some l) t = (t ≡ after_append s l (Ok tt))

lead_grown : (s t : Stored) (id : ℕ) (rows : Option Rows) (made : Option Link) → LeadsTo s id rows made t → Grown s made t
lead_grown s t id None None h = h.1
lead_grown s t id None (Some l) h = absurd (let e : Some l ≡ None = h.0 in cc)
lead_grown s t id (Some rows) None h = h.1
lead_grown s t id (Some rows) (Some l) h = h.2

pub transacted : (s t : Stored) (fresh rest : ℕ) (a : Asked) (o : Outcome) → TransactsTo s fresh a (Ok o) t rest → Grown s o.link t
transacted s t fresh rest a o h = lead_grown s t a.id (effect_in s a h.1.row_ids).rows o.link h.1.leads

no_room : (s t : Stored) (id : ℕ) (rows : Option Rows) → FindsNoRoom s id rows t → t ≡ s
no_room s t id None h = absurd h
no_room s t id (Some rows) h = h.2

pub refused_same : (s t : Stored) (fresh rest : ℕ) (a : Asked) (e : SourceError) → TransactsTo s fresh a (Err e) t rest → (t ≡ s)
refused_same s t fresh rest a IdTaken h = h.1
refused_same s t fresh rest a RowIdsSpent h = h.2
refused_same s t fresh rest a Full h = no_room s t a.id (effect_in s a h.1.0).rows h.1.3
refused_same s t fresh rest a NoMemory h = h.0

-- a source's links are among those of a source with one more
keeps_all : (s t : Stored) (h k : EpochHistory) (l : Link) → t.schema ≡ s.schema → IsSourceOf s h → IsSourceOf t k → links_in (tables_of s) (epochs_of k) ≡ links_in (tables_of s) (epochs_of h) ++ l ∷ []
    → (x : Link) → Holds s.links x → Holds t.links x
keeps_all s t h k l schema before after links x held =
    let there : Among (links_in (tables_of s) (epochs_of k)) x = subst (λ (ls : List Link). Among ls x) (sym links) (Among-left (links_in (tables_of s) (epochs_of h)) (l ∷ []) x ((before.held x).0 held)) in
    (after.held x).1 (subst (λ (v : SchemaValue). Among (links_in v.description.tables (epochs_of k)) x) (sym schema) there)

makes_commit : (s t : Stored) (l : Link) → IsSource s → IsStore t → t ≡ after_append s l (Ok tt) → KeepsHistory s (Some l) t → Makes s t
makes_commit s t l source store is keeps =
    let schema : t.schema ≡ s.schema = ap (λ (x : Stored). x.schema) is in
    let k = keeps source.history source.is in
    record {
      extends = record {
        schema = schema;
        store = store;
        keeps = keeps_all s t source.history k.0 l schema source.is k.2 k.1.links;
        grows = grows_by s.folded (l ∷ []) t.folded (sym (ap (λ (x : Stored). x.folded) is));
      };
      lines = keeps_lines s t (Some l) schema keeps;
    }

pub world_committed : (s t : Stored) (fresh rest : ℕ) (relays : List Stored) (os : List (Option SimSession)) (made : Option Link) → IsWorld (record { source = s; fresh = fresh; relays = relays; sessions = os })
    → Grown s made t → KeepsHistory s made t → IsSource t → IsStore t → IsWorld (record { source = t; fresh = rest; relays = relays; sessions = os })
world_committed s t fresh rest relays os None w same keeps source store =
    subst (λ (x : Stored). IsWorld (record { source = x; fresh = rest; relays = relays; sessions = os })) (sym same) (record { tier = w.tier; sessions = w.sessions })
world_committed s t fresh rest relays os (Some l) w grown keeps source store =
    world_made s t (makes_commit s t l w.tier.is_source store grown keeps) relays fresh rest os source w

pub world_same : (s t : Stored) (fresh rest : ℕ) (relays : List Stored) (os : List (Option SimSession)) → IsWorld (record { source = s; fresh = fresh; relays = relays; sessions = os })
    → t ≡ s → IsWorld (record { source = t; fresh = rest; relays = relays; sessions = os })
world_same s t fresh rest relays os w same =
    subst (λ (x : Stored). IsWorld (record { source = x; fresh = rest; relays = relays; sessions = os })) (sym same) (record { tier = w.tier; sessions = w.sessions })

-- ---- a new epoch

pub trim_refused : (s t : Stored) (id : ℕ) (e : TrimError) → TrimsTo s id (Err e) t → t ≡ s
trim_refused s t id trimming.IdTaken h = h.1
trim_refused s t id trimming.EpochsSpent h = h.2
trim_refused s t id trimming.Full h = h.3
trim_refused s t id trimming.NoMemory h = h

makes_epoch : (s t : Stored) (id : ℕ) (l : Link) → IsSource s → IsStore t → TrimsTo s id (Ok l) t → BeginsEpoch s l t → Makes s t
makes_epoch s t id l source store trims begins =
    let is : t ≡ after_restart s l (Ok tt) = trims.2 in
    let schema : t.schema ≡ s.schema = ap (λ (x : Stored). x.schema) is in
    let folded : t.folded ≡ l ∷ [] = ap (λ (x : Stored). x.folded) is in
    let prev : l.prev ≡ suc (start_in s) = ap (λ (x : Link). x.prev) trims.1 in
    let start : start_of t.folded ≡ l.prev = ap start_of folded in
    let k = begins source.history source.is in
    record {
      extends = record {
        schema = schema;
        store = store;
        keeps = keeps_all s t source.history k.0 l schema source.is k.2 k.1.links;
        grows = grows_later s.folded t.folded (omega (arith, prev, start));
      };
      lines = begins_lines s t l schema begins;
    }

pub world_trimmed : (s t : Stored) (fresh : ℕ) (relays : List Stored) (os : List (Option SimSession)) (id : ℕ) (l : Link) → IsWorld (record { source = s; fresh = fresh; relays = relays; sessions = os })
    → TrimsTo s id (Ok l) t → BeginsEpoch s l t → IsSource t → IsStore t → IsWorld (record { source = t; fresh = fresh; relays = relays; sessions = os })
world_trimmed s t fresh relays os id l w trims begins source store =
    world_made s t (makes_epoch s t id l w.tier.is_source store trims begins) relays fresh fresh os source w
