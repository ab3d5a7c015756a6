-- A session stays led along its line, call by call.
use Rattle.std.proofs.Common.{◌≡◌, ◌≤◌, ◌<◌, ◌⊎◌, ⊎_elim, inl, inr, ℕ, zero, suc, ◌+◌, Bool, true, List, [], ◌∷◌, ◌++◌, Option, Some, None, Ok, length, map, take, refl, sym, ◌∙◌, ap, subst, arith, append_assoc, append-nil}
use Rattle.std.proofs.lemmas.Bool.{lt-ltb}
use Rattle.std.specs.Prelude.{slice_get, false, flat_map, nat_lt}
use Rattle.std.specs.List.{enumerate_from}
use Rattle.serde_json.specs.Data.{Data}
use Rattle.ovs_types.specs.Schema.{SchemaValue}
use Rattle.ovs_types.specs.SchemaReading.{read_description}
use Rattle.ovs_types.specs.declared.schema.Table.{Table}
use Rattle.ovs_rows.specs.Row.{no_rows}
use Rattle.ovs_links.specs.Chains.{GrowsInto, head_after, start_of}
use Rattle.ovs_links.specs.Absorbing.{StepsGoOn}
use Rattle.ovs_links.specs.Epochs.{links_within}
use Rattle.ovs_links.specs.Sets.{AllOf, Among, Holds}
use Rattle.ovs_links.specs.StepChains.{ExtendsShown, start_at}
use Rattle.ovs_links.specs.Steps.{FoldedValue, steps_of}
use Rattle.ovs_links.specs.declared.step.Step.{Step}
use Rattle.ovs_links.specs.Store.{Stored, IsStore, start_in, tables_of}
use Rattle.ovs_links.specs.declared.link.Link.{Link}
use Rattle.ovs_links.proofs.StepLemmas.{length_steps, start_steps}
use Rattle.ovs_reader.proofs.Showing.{grown_steps, more_shown, over_later}
use Rattle.ovs_reader.specs.Session.{SessionValue, new_session, GoesOn, MayBeShown, is_over}
use Rattle.ovs_reader.specs.Telling.{told, notices, moved_to, AreToldReadably}
use Rattle.ovs_reader.specs.Turns.{turn, after_turn}
use Rattle.ovs_reader.specs.declared.subscription.Subscription.{Subscription}
use Rattle.ovs_source.specs.Commits.{IsSource}
use Rattle.ovs_rows.specs.Database.{DatabaseValue}
use Rattle.ovs_upstream.specs.Hearing.{heard, hears, links_in, at_stage, known_at}
use Rattle.ovs_upstream.specs.Lawful.{IsAt, IsLinkAt, Answers}
use Rattle.ovs_upstream.specs.Requests.{CanBeAsked, monitor_request}
use Rattle.ovs_upstream.specs.Talk.{Talk, Schema, Reached, Update, Aside, Improper, talk_of}
use Rattle.ovs_upstream.specs.declared.up_event.UpEvent.{UpEvent}
use Rattle.ovs_upstream.specs.declared.up_event.UpEvent.TheVariants.{Links, Send, ReplyFor, Locked, Stolen, Nothing}
use Rattle.ovs_upstream.specs.declared.up_session.Heard.{Heard}
use Rattle.ovs_upstream.specs.declared.up_session.SyncState.{SyncState}
use Rattle.ovs_upstream.specs.declared.up_session.SyncState.TheVariants.{Opening, Asking, At, Ended}
use Rattle.ovs_upstream.specs.declared.up_session.UpSession.{UpSession}
use Rattle.ovs_wire.specs.declared.message.Message.{Message}
use Rattle.ovs_world.specs.Awaiting.{IsRelayMonitor, TellsPlace, TellLinks}
use Rattle.ovs_world.specs.Carrying.{Line, IsIdle, Carries, Sends, SendsAll, SendsAny}
use Rattle.ovs_world.specs.Leading.{HasMonitor, Awaits, IsLineOf, IsLed}
use Rattle.ovs_world.specs.Nodes.{Extends, IsNode, folded_in}
use Rattle.ovs_world.specs.Sessions.{Opens, Asks, IsSilent, Replies, Pumps, Goes, Hears, is_behind, moved_on, with_line}
use Rattle.ovs_world.specs.declared.sim_session.SimSession.{SimSession}
use Rattle.ovs_world.specs.Asking.{schema_reply}
use Rattle.ovs_world.proofs.Answering.{schema_answered, monitor_answered}
use Rattle.ovs_world.proofs.Carried.{carries_nothing, carries_sent}
use Rattle.ovs_world.proofs.Heard.{IsHeard, first_heard}
use Rattle.ovs_world.proofs.Lines.{line_front, line_held, line_history, line_of, source_line}
use Rattle.ovs_world.proofs.Telling.{length_links, told_links}

-- ---- lines

pub sent_carries : (old new : Line) (messages : List Message) (m : Message) → Sends old m new → Carries old messages → Carries new (messages ++ m ∷ [])
sent_carries old new messages m sends carries =
    subst (λ (l : Line). Carries l (messages ++ m ∷ [])) (sym sends.2) (carries_sent old messages m sends.0 carries sends.1)

pub all_sent_carries : (old new : Line) (messages more : List Message) → SendsAll old more new → Carries old messages → Carries new (messages ++ more)
all_sent_carries old new messages [] sends carries =
    subst (λ (ms : List Message). Carries new ms) (sym (append-nil messages)) (subst (λ (l : Line). Carries l messages) (sym sends) carries)
all_sent_carries old new messages (m ∷ more) sends carries =
    subst (λ (ms : List Message). Carries new ms) (append_assoc messages (m ∷ []) more)
    (all_sent_carries sends.0 new (messages ++ m ∷ []) more sends.2 (sent_carries old sends.0 messages m sends.1 carries))

-- ---- a chain that begins as a line does

get_taken : (n : ℕ) (ls : List Link) (j : ℕ) (l : Link) → slice_get (take n ls) j ≡ Some l → slice_get ls j ≡ Some l
get_taken zero ls j l e = absurd cc
get_taken (suc n) [] j l e = e
get_taken (suc n) (x ∷ ls) zero l e = e
get_taken (suc n) (x ∷ ls) (suc j) l e = get_taken n ls j l e

length_front : (n : ℕ) (ls : List Link) → length (take n ls) ≤ length ls
length_front zero ls = omega arith
length_front (suc n) [] = omega arith
length_front (suc n) (l ∷ ls) = let t = length_front n ls in omega arith

take_front : (k n : ℕ) (ls : List Link) → k ≤ length (take n ls) → take k (take n ls) ≡ take k ls
take_front zero n ls le = refl
take_front (suc k) zero ls le = absurd (omega arith)
take_front (suc k) (suc n) [] le = refl
take_front (suc k) (suc n) (l ∷ ls) le = ap (λ x. l ∷ x) (take_front k n ls (omega arith))

module _ (tables : List Table) (n : ℕ) (ls : List Link) (begins : start_of (take n ls) ≡ start_of ls) where
  at_front : (id k : ℕ) → IsAt (take n ls) id k → IsAt ls id k
  at_front id k at =
      (let le = length_front n ls in omega (arith, le, at.0), ap (λ i. head_after i (take k ls)) (sym begins) ∙ ap (head_after (start_of (take n ls))) (sym (take_front k n ls at.0)) ∙ at.1)

  link_front : (k id : ℕ) (d : Data) → IsLinkAt tables (take n ls) k id d → IsLinkAt tables ls k id d
  link_front k id d i = record { link = i.link; found = get_taken n ls k i.link i.found; id_is = i.id_is; spells = i.spells }

  answers_front : (asked : ℕ) (known : Bool) (id : ℕ) (d : Data) (k : ℕ) → Answers tables (take n ls) asked known id d k → Answers tables ls asked known id d k
  answers_front asked true id d k (inl a) = inl (a.0, a.1, at_front asked k a.2)
  answers_front asked true id d k (inr a) = inr (a.0, a.1, at_front asked a.0 a.2, link_front a.0 id d a.3)
  answers_front asked false id d k (inl a) = inl (a.0 ∙ begins, a.1, a.2)
  answers_front asked false id d k (inr a) = inr (a.0, sym begins ∙ a.1, link_front 0 id d a.2)

  place_front : (asked k : ℕ) (t : Talk) → TellsPlace tables (take n ls) asked k t → TellsPlace tables ls asked k t
  place_front asked k (Reached known id d) a = answers_front asked known id d k a
  place_front asked k (Schema d) a = a
  place_front asked k (Update id d) a = a
  place_front asked k (Aside e) a = a
  place_front asked k Improper a = a

-- ---- more is told

tell_more : (tables : List Table) (ls : List Link) (k t u : ℕ) (ms more : List Message) → TellLinks tables ls k t ms → TellLinks tables ls t u more
    → TellLinks tables ls k u (ms ++ more)
tell_more tables ls k t u [] more a b = subst (λ j. TellLinks tables ls j u more) (sym a) b
tell_more tables ls k t u (m ∷ ms) more a b = (a.0, tell_more tables ls (suc k) t u ms more a.1 b)

-- ---- what a node tells a session

true_false : true ≡ false → ⊥
true_false e = cc

-- what isn't known stays so
none_at : (stage : SyncState) (known : Option DatabaseValue) → known ≡ None → known_at stage known ≡ None
none_at Opening known none = none
none_at Asking known none = none
none_at (At id) known none = refl
none_at Ended known none = none

-- what the node's reader is shown is over exactly where the session is behind
pub led_over : (source node : Stored) (s : SimSession) → IsLed source node s → is_over s.reader.start (folded_in node) ≡ is_behind (folded_in node) s
led_over source node s is = ap (λ (o : Option ℕ). is_over o (folded_in node)) is.start

-- the first message on its way is heard
pub led_first : (source node : Stored) (s : SimSession) (m : Message) (more : List Message) → (is : IsLed source node s) → is.messages ≡ m ∷ more
    → (h : Heard) × IsHeard source.schema is.line s.reader.shown s.up s.reader.monitors m more h
led_first source node s m more is are = by is.awaits
  where
    by : ((is.messages ≡ []) × (is_behind (folded_in node) s ≡ true)) ⊎ Awaits source.schema is.line s.reader.shown s.up.asked s.up.stage s.reader.monitors is.messages
        → (h : Heard) × IsHeard source.schema is.line s.reader.shown s.up s.reader.monitors m more h
    by (inl none) = absurd (let e : m ∷ more ≡ [] = sym are ∙ none.0 in cc)
    by (inr awaits) = first_heard source.schema is.line s.reader.shown s.up s.reader.monitors m more (source_line source is.line is.is_line) is.says is.schema is.unknown
        (subst (λ (ms : List Message). Awaits source.schema is.line s.reader.shown s.up.asked s.up.stage s.reader.monitors ms) are awaits)

-- it tells the chain that the node has folded, of which it was shown the first links
pub record IsHere (node : Stored) (s : SimSession) (line : List Link) : Type 0 where
  pub start : start_at (folded_in node) ≡ s.begun
  pub begins : start_in node ≡ start_of line
  pub front : node.folded ≡ take (length node.folded) line
  pub shown : s.reader.shown ≤ length node.folded

module _ (source node : Stored) (is_node : IsNode source node) where
  abbrev f : FoldedValue
  f = folded_in node

  abbrev count : ℕ
  count = length node.folded

  abbrev tables : List Table
  tables = tables_of source

  count_is : length f.steps ≡ count
  count_is = length_steps node.schema.description.tables no_rows node.folded

  begins_at : start_at f ≡ start_in node
  begins_at = start_steps node.schema.description.tables no_rows node.folded

  -- as a session does that isn't behind
  here : (s : SimSession) → (is : IsLed source node s) → is_behind f s ≡ false → IsHere node s is.line
  here s is goes_on = by (subst (λ (o : Option ℕ). GoesOn f o s.reader.shown s.reader.head) is.start is.shown.extends)
    where
      by : ((start_at f ≡ s.begun) × ExtendsShown f s.reader.shown s.reader.head) ⊎ (s.begun < start_at f) → IsHere node s is.line
      by (inr lt) = absurd (true_false (sym (lt-ltb s.begun (start_at f) lt) ∙ goes_on))
      by (inl on) =
          let begins : start_in node ≡ start_of is.line = sym begins_at ∙ on.0 ∙ is.begun in
          let within = on.1.0 in
          let long = count_is in
          record {
            start = on.0;
            begins = begins;
            front = line_front source is.line is.is_line node is_node begins;
            shown = omega (arith, within, long);
          }

  -- at its stage, a session that has the same monitors awaits these messages
  awaits_now : (t : SimSession) (line : List Link) (n asked : ℕ) (stage : SyncState) (monitors : List Subscription) (messages : List Message) → t.reader.shown ≡ n → t.up.asked ≡ asked → t.up.stage ≡ stage
      → t.reader.monitors ≡ monitors → Awaits source.schema line n asked stage monitors messages → Awaits source.schema line t.reader.shown t.up.asked t.up.stage t.reader.monitors messages
  awaits_now t line n asked stage monitors messages z a b c awaits =
      subst (λ (x : ℕ). Awaits source.schema line x t.up.asked t.up.stage t.reader.monitors messages) (sym z)
      (subst (λ (x : ℕ). Awaits source.schema line n x t.up.stage t.reader.monitors messages) (sym a)
      (subst (λ (x : SyncState). Awaits source.schema line n asked x t.reader.monitors messages) (sym b)
      (subst (λ (x : List Subscription). Awaits source.schema line n asked stage x messages) (sym c) awaits)))

  -- ---- what is heard

  module _ (s : SimSession) (m : Message) (way : Line) (more : List Message) (is : IsLed source node s) (carries : Carries way more) where
    -- the monitor was asked for, of a node that goes on
    replied_for : (t : SimSession) → Asks f (moved_on s Asking way) (monitor_request s.up.schema s.up.asked) t → Replies f (moved_on s Asking way) (monitor_request s.up.schema s.up.asked) t
        → MayBeShown t.reader f → CanBeAsked s.up.schema s.up.asked → s.reader.monitors ≡ [] → more ≡ [] → IsLed source node t
    replied_for t asks replies shown can new none =
        let same : s.up.schema ≡ node.schema = is.schema ∙ sym is_node.schema in
        let at = here s is replies.goes_on in
        let line = is.line in
        let a = monitor_answered node.schema node.folded s.reader s.up.asked is_node.store.start (subst (λ (v : SchemaValue). CanBeAsked v s.up.asked) same can) is.goes_on new in
        let request : Message = monitor_request node.schema s.up.asked in
        let asked_is : monitor_request s.up.schema s.up.asked ≡ request = ap (λ (v : SchemaValue). monitor_request v s.up.asked) same in
        let reader : t.reader ≡ after_turn s.reader f request = replies.reader ∙ ap (λ (r : Message). after_turn s.reader f r) asked_is in
        let sends : SendsAny way (turn s.reader f request).out t.downward = subst (λ (r : Message). SendsAny way (turn s.reader f r).out t.downward) asked_is replies.reply in
        let reply = a.1 in
        let sent : Sends way reply t.downward = subst (λ (o : Option Message). SendsAny way o t.downward) a.4 sends in
        let begins : start_of (take count line) ≡ start_of line = ap start_of (sym at.front) ∙ at.begins in
        record {
          schema = ap (λ (u : UpSession). u.schema) asks.up ∙ is.schema;
          says = subst (λ (u : UpSession). read_description u.schema.json ≡ Ok u.schema.description) (sym asks.up) is.says;
          unknown = ap (λ (u : UpSession). u.known) asks.up ∙ is.unknown;
          goes_on = ap (λ (r : SessionValue). r.is_ended) reader ∙ is.goes_on;
          shown = shown;
          idle = asks.arrived;
          line = line;
          is_line = is.is_line;
          begun = asks.ends.2 ∙ is.begun;
          start = ap (λ (r : SessionValue). r.start) reader ∙ ap Some (at.start ∙ sym asks.ends.2);
          messages = reply ∷ [];
          carried = subst (λ (ms : List Message). Carries t.downward (ms ++ reply ∷ [])) none (sent_carries way t.downward more reply sent carries);
          awaits = inr (awaits_now t line (length f.steps) s.up.asked Asking (a.0 ∷ []) (reply ∷ []) (ap (λ (r : SessionValue). r.shown) reader)
              (ap (λ (u : UpSession). u.asked) asks.up) (ap (λ (u : UpSession). u.stage) asks.up) (ap (λ (r : SessionValue). r.monitors) reader ∙ a.5)
              (record {
                monitor = a.0;
                has = record {
                  only = refl;
                  relay = subst (λ (v : SchemaValue). IsRelayMonitor v.description.tables a.0) is_node.schema a.2;
                  within = (let within = a.3 in let long = count_is in omega (arith, within, long));
                };
                answer = reply;
                more = [];
                are = refl;
                place = a.0.position;
                tells = place_front tables count line begins s.up.asked a.0.position (talk_of reply)
                    (subst (λ (v : SchemaValue). TellsPlace v.description.tables (take count line) s.up.asked a.0.position (talk_of reply)) is_node.schema
                    (subst (λ (ls : List Link). TellsPlace node.schema.description.tables ls s.up.asked a.0.position (talk_of reply)) at.front a.6));
                links = refl;
              }));
        }

    -- and of one that has begun anew: it replies nothing
    asked_in_vain : (t : SimSession) → Asks f (moved_on s Asking way) (monitor_request s.up.schema s.up.asked) t → IsSilent f (moved_on s Asking way) t → MayBeShown t.reader f → more ≡ [] → IsLed source node t
    asked_in_vain t asks silent shown none = record {
      schema = ap (λ (u : UpSession). u.schema) asks.up ∙ is.schema;
      says = subst (λ (u : UpSession). read_description u.schema.json ≡ Ok u.schema.description) (sym asks.up) is.says;
      unknown = ap (λ (u : UpSession). u.known) asks.up ∙ is.unknown;
      goes_on = ap (λ (r : SessionValue). r.is_ended) silent.reader ∙ is.goes_on;
      shown = shown;
      idle = asks.arrived;
      line = is.line;
      is_line = is.is_line;
      begun = asks.ends.2 ∙ is.begun;
      start = ap (λ (r : SessionValue). r.start) silent.reader ∙ is.start ∙ ap Some (sym asks.ends.2);
      messages = more;
      carried = subst (λ (l : Line). Carries l more) (sym silent.downward) carries;
      awaits = inl (none, ap (λ (n : ℕ). nat_lt n (start_at f)) asks.ends.2 ∙ silent.behind);
    }

    asked_for : (t : SimSession) → Asks f (moved_on s Asking way) (monitor_request s.up.schema s.up.asked) t → MayBeShown t.reader f
        → CanBeAsked s.up.schema s.up.asked → s.reader.monitors ≡ [] → more ≡ [] → IsLed source node t
    asked_for t asks shown can new none =
        ⊎_elim (λ (silent : IsSilent f (moved_on s Asking way) t). asked_in_vain t asks silent shown none)
        (λ (replies : Replies f (moved_on s Asking way) (monitor_request s.up.schema s.up.asked) t). replied_for t asks replies shown can new none) asks.answered

    -- nothing has to be asked
    went_on : (stage : SyncState) → Awaits source.schema is.line s.reader.shown s.up.asked stage s.reader.monitors more → IsLed source node (moved_on s stage way)
    went_on stage awaits = record {
      schema = is.schema;
      says = is.says;
      unknown = none_at stage s.up.known is.unknown;
      goes_on = is.goes_on;
      shown = is.shown;
      idle = is.idle;
      line = is.line;
      is_line = is.is_line;
      begun = is.begun;
      start = is.start;
      messages = more;
      carried = carries;
      awaits = inr awaits;
    }

    heard_by : (stage : SyncState) (event : UpEvent) (t : SimSession) (h : Heard) → heard stage event ≡ Ok h → (s.up.stage ≡ Opening → stage ≡ Asking → CanBeAsked s.up.schema s.up.asked)
        → MayBeShown t.reader f → Goes f (moved_on s stage way) event t → IsHeard source.schema is.line s.reader.shown s.up s.reader.monitors m more h
        → AllOf (Holds source.links) (links_in event) × IsLed source node t
    heard_by stage event t h same can shown goes first = by first.then
      where
        stage_is : stage ≡ h.stage
        stage_is = cc same

        event_is : event ≡ h.event
        event_is = cc same

        by_event : Awaits source.schema is.line s.reader.shown s.up.asked h.stage s.reader.monitors more → (h.event ≡ Nothing) ⊎ ((l : Link) × (h.event ≡ Links (l ∷ [])) × Among is.line l)
            → AllOf (Holds source.links) (links_in event) × IsLed source node t
        by_event awaits (inl none) =
            let e : event ≡ Nothing = event_is ∙ none in
            let t_is : t ≡ moved_on s stage way = subst (λ (x : UpEvent). Goes f (moved_on s stage way) x t) e goes in (
              subst (λ (x : UpEvent). AllOf (Holds source.links) (links_in x)) (sym e) tt,
              subst (IsLed source node) (sym t_is) (went_on stage (subst (λ (x : SyncState). Awaits source.schema is.line s.reader.shown s.up.asked x s.reader.monitors more) (sym stage_is) awaits)),
            )
        by_event awaits (inr some) =
            let e : event ≡ Links (some.0 ∷ []) = event_is ∙ some.1 in
            let t_is : t ≡ moved_on s stage way = subst (λ (x : UpEvent). Goes f (moved_on s stage way) x t) e goes in (
              subst (λ (x : UpEvent). AllOf (Holds source.links) (links_in x)) (sym e) (line_held source is.line is.is_line some.0 some.2, tt),
              subst (IsLed source node) (sym t_is) (went_on stage (subst (λ (x : SyncState). Awaits source.schema is.line s.reader.shown s.up.asked x s.reader.monitors more) (sym stage_is) awaits)),
            )

        by : ((h.stage ≡ Asking) × (h.event ≡ Send (monitor_request s.up.schema s.up.asked)) × (s.up.stage ≡ Opening) × (s.reader.monitors ≡ []) × (more ≡ []))
            ⊎ (((h.event ≡ Nothing) ⊎ ((l : Link) × (h.event ≡ Links (l ∷ [])) × Among is.line l)) × Awaits source.schema is.line s.reader.shown s.up.asked h.stage s.reader.monitors more)
            → AllOf (Holds source.links) (links_in event) × IsLed source node t
        by (inr r) = by_event r.1 r.0
        by (inl a) =
            let e : event ≡ Send (monitor_request s.up.schema s.up.asked) = event_is ∙ a.1 in
            let st : stage ≡ Asking = stage_is ∙ a.0 in
            let asks : Asks f (moved_on s Asking way) (monitor_request s.up.schema s.up.asked) t =
            subst (λ (x : SyncState). Asks f (moved_on s x way) (monitor_request s.up.schema s.up.asked) t) st
            (subst (λ (x : UpEvent). Goes f (moved_on s stage way) x t) e goes) in (
              subst (λ (x : UpEvent). AllOf (Holds source.links) (links_in x)) (sym e) tt,
              asked_for t asks shown (can a.2 st) a.3 a.4,
            )

  pub led_heard : (s : SimSession) (m : Message) (way : Line) (more : List Message) (stage : SyncState) (event : UpEvent) (t : SimSession) → (is : IsLed source node s)
      → is.messages ≡ m ∷ more → Carries way more → hears s.up m ≡ heard stage event → (s.up.stage ≡ Opening → stage ≡ Asking → CanBeAsked s.up.schema s.up.asked)
      → MayBeShown t.reader f → Goes f (moved_on s stage way) event t → AllOf (Holds source.links) (links_in event) × IsLed source node t
  led_heard s m way more stage event t is are carries hears_is can shown goes =
      let first = led_first source node s m more is are in
      heard_by s m way more is carries stage event t first.0 (sym hears_is ∙ first.1.is) can shown goes first.1

  -- ---- what is told

  module _ (line : List Link) (is_line : IsLineOf source line) (front : node.folded ≡ take count line) where
    front_long : count ≤ length is_line.epoch.commits
    front_long =
        let short : length node.folded ≤ length line = subst (λ (ls : List Link). length ls ≤ length line) (sym front) (length_front count line) in
        let all : length (links_within tables is_line.epoch) ≡ length is_line.epoch.commits = length_links tables is_line.epoch.start no_rows is_line.epoch.commits in
        let same : length (links_within tables is_line.epoch) ≡ length line = ap length is_line.links in
        omega (arith, short, all, same)

    -- what a relay's monitor is told
    tells_all : (m : Subscription) → IsRelayMonitor tables m → m.position ≤ count → AreToldReadably (m ∷ []) f.steps → TellLinks tables line m.position count (told (m ∷ []) f.steps)
    tells_all m relay within readable =
        let links = links_within tables is_line.epoch in
        let first : node.folded ≡ take count links = front ∙ ap (take count) (sym is_line.links) in
        let steps : f.steps ≡ steps_of tables no_rows (take count links) =
        ap (λ (v : SchemaValue). steps_of v.description.tables no_rows node.folded) is_node.schema ∙ ap (steps_of tables no_rows) first in
        let t = told_links tables is_line.epoch count m (line_history source line is_line) front_long relay within (subst (AreToldReadably (m ∷ [])) steps readable) in
        subst (λ (ls : List Link). TellLinks tables ls m.position count (told (m ∷ []) f.steps)) is_line.links
        (subst (λ ss. TellLinks tables links m.position count (told (m ∷ []) ss)) (sym steps) t)

  told_none : told [] f.steps ≡ []
  told_none = none f.steps 0
    where
      none : (steps : List Step) (k : ℕ) → flat_map (notices []) (enumerate_from k steps) ≡ []
      none [] k = refl
      none (s ∷ ss) k = none ss (k + 1)

  module _ (s t : SimSession) (is : IsLed source node s) (pumps : Pumps f s t) (readable : AreToldReadably s.reader.monitors f.steps) (shown : MayBeShown t.reader f) where
    at : IsHere node s is.line
    at = here s is pumps.goes_on

    abbrev line : List Link
    line = is.line

    -- the monitor was told all
    has_all : (m : Subscription) → HasMonitor tables s.reader.shown s.reader.monitors m → HasMonitor tables count t.reader.monitors (moved_to count m)
    has_all m has = record {
      only = ap (λ (r : SessionValue). r.monitors) pumps.reader ∙ ap (map (moved_to (length f.steps))) has.only ∙ ap (λ k. moved_to k m ∷ []) count_is;
      relay = record { named = has.relay.named; notation = has.relay.notation; whole = has.relay.whole };
      within = omega arith;
    }

    tells : (m : Subscription) → HasMonitor tables s.reader.shown s.reader.monitors m → TellLinks tables line m.position count (told s.reader.monitors f.steps)
    tells m has =
        let within = has.within in
        let short = at.shown in
        subst (λ (ms : List Subscription). TellLinks tables line m.position count (told ms f.steps)) (sym has.only)
        (tells_all line is.is_line at.front m has.relay (omega (arith, within, short)) (subst (λ (ms : List Subscription). AreToldReadably ms f.steps) has.only readable))

    abbrev more : List Message
    more = told s.reader.monitors f.steps

    told_on : (stage : SyncState) → Awaits source.schema line s.reader.shown s.up.asked stage s.reader.monitors is.messages → Awaits source.schema line count s.up.asked stage t.reader.monitors (is.messages ++ more)
    told_on Opening a = (
      ap (λ (r : SessionValue). r.monitors) pumps.reader ∙ ap (map (moved_to (length f.steps))) a.0,
      ap (λ (ms : List Message). is.messages ++ ms) (ap (λ (ms : List Subscription). told ms f.steps) a.0 ∙ told_none) ∙ append-nil is.messages ∙ a.1,
    )
    told_on Asking a = record {
      monitor = moved_to count a.monitor;
      has = has_all a.monitor a.has;
      answer = a.answer;
      more = a.more ++ more;
      are = ap (λ (ms : List Message). ms ++ more) a.are;
      place = a.place;
      tells = a.tells;
      links = tell_more tables line a.place a.monitor.position count a.more more a.links (tells a.monitor a.has);
    }
    told_on (At id) a = record {
      monitor = moved_to count a.monitor;
      has = has_all a.monitor a.has;
      place = a.place;
      stands = a.stands;
      links = tell_more tables line a.place a.monitor.position count is.messages more a.links (tells a.monitor a.has);
    }
    told_on Ended a = a

    pub led_pumped : IsLed source node t
    led_pumped = record {
      schema = ap (λ (u : UpSession). u.schema) pumps.up ∙ is.schema;
      says = subst (λ (u : UpSession). read_description u.schema.json ≡ Ok u.schema.description) (sym pumps.up) is.says;
      unknown = ap (λ (u : UpSession). u.known) pumps.up ∙ is.unknown;
      goes_on = ap (λ (r : SessionValue). r.is_ended) pumps.reader ∙ is.goes_on;
      shown = shown;
      idle = subst IsIdle (sym pumps.upward) is.idle;
      line = line;
      is_line = is.is_line;
      begun = pumps.ends.2 ∙ is.begun;
      start = ap (λ (r : SessionValue). r.start) pumps.reader ∙ ap Some (at.start ∙ sym pumps.ends.2);
      messages = is.messages ++ more;
      carried = all_sent_carries s.downward t.downward is.messages more pumps.told is.carried;
      awaits = inr (subst (λ (n : ℕ). Awaits source.schema line n t.up.asked t.up.stage t.reader.monitors (is.messages ++ more)) (sym (ap (λ (r : SessionValue). r.shown) pumps.reader ∙ count_is))
          (subst (λ (u : UpSession). Awaits source.schema line count u.asked u.stage t.reader.monitors (is.messages ++ more)) (sym pumps.up) (told_on s.up.stage awaits)));
    }
      where
        awaits : Awaits source.schema line s.reader.shown s.up.asked s.up.stage s.reader.monitors is.messages
        awaits = ⊎_elim (λ (silent : (is.messages ≡ []) × (is_behind f s ≡ true)). absurd (true_false (sym silent.1 ∙ pumps.goes_on)))
            (λ (a : Awaits source.schema line s.reader.shown s.up.asked s.up.stage s.reader.monitors is.messages). a) is.awaits

  -- a session that was opened
  pub led_opened : IsSource source → (relay upstream asked : ℕ) (t : SimSession) → Opens f relay upstream asked t → MayBeShown t.reader f
      → read_description t.up.schema.json ≡ Ok t.up.schema.description → IsLed source node t
  led_opened is_source relay upstream asked t opens shown says =
      let answered = schema_answered f new_session refl in
      let some = line_of source node is_source is_node in
      record {
        schema = ap (λ (u : UpSession). u.schema) opens.up ∙ is_node.schema;
        says = says;
        unknown = ap (λ (u : UpSession). u.known) opens.up;
        goes_on = ap (λ (r : SessionValue). r.is_ended) opens.reader;
        shown = shown;
        idle = opens.upward;
        line = some.0;
        is_line = some.1;
        begun = opens.begun ∙ begins_at ∙ sym some.2;
        start = ap (λ (r : SessionValue). r.start) opens.reader ∙ ap Some (sym opens.begun);
        messages = schema_reply source.schema ∷ [];
        carried = sent_carries opens.before t.downward [] (schema_reply source.schema)
            (subst (λ (v : SchemaValue). Sends opens.before (schema_reply v) t.downward) is_node.schema opens.reply) (carries_nothing opens.before opens.idle);
        awaits = inr (awaits_now t some.0 (length f.steps) asked Opening [] (schema_reply source.schema ∷ []) (ap (λ (r : SessionValue). r.shown) opens.reader)
            (ap (λ (u : UpSession). u.asked) opens.up) (ap (λ (u : UpSession). u.stage) opens.up) (ap (λ (r : SessionValue). r.monitors) opens.reader ∙ answered.1) (refl, refl));
      }

-- what is on its way came nearer
pub led_fed : (source node : Stored) (s : SimSession) (way : Line) → IsLed source node s → ((messages : List Message) → Carries s.downward messages → Carries way messages)
    → IsLed source node (with_line s way)
led_fed source node s way is keeps = record {
  schema = is.schema;
  says = is.says;
  unknown = is.unknown;
  goes_on = is.goes_on;
  shown = is.shown;
  idle = is.idle;
  line = is.line;
  is_line = is.is_line;
  begun = is.begun;
  start = is.start;
  messages = is.messages;
  carried = keeps is.messages is.carried;
  awaits = is.awaits;
}

-- what the relay's end heard doesn't depend on what it has to send
goes_up : (f : FoldedValue) (s t : SimSession) (event : UpEvent) → Goes f s event t → t.up ≡ s.up
goes_up f s t (Links ls) goes = ap (λ (x : SimSession). x.up) goes
goes_up f s t (Send m) goes = goes.up
goes_up f s t (ReplyFor n a) goes = ap (λ (x : SimSession). x.up) goes
goes_up f s t (Locked name) goes = ap (λ (x : SimSession). x.up) goes
goes_up f s t (Stolen name) goes = ap (λ (x : SimSession). x.up) goes
goes_up f s t Nothing goes = ap (λ (x : SimSession). x.up) goes

-- the first message that is whole
pub led_next : (source node : Stored) → IsNode source node
    → (s t : SimSession) (m : Message) (way : Line) (more : List Message) (links : List Link) → (is : IsLed source node s) → is.messages ≡ m ∷ more → Carries way more
    → Hears (folded_in node) (with_line s way) m links t → (s.up.stage ≡ Opening → t.up.stage ≡ Asking → CanBeAsked s.up.schema s.up.asked) → MayBeShown t.reader (folded_in node)
    → AllOf (Holds source.links) links × IsLed source node t
led_next source node is_node s t m way more links is are carries hears_is can shown =
    let up : t.up ≡ at_stage s.up hears_is.stage = goes_up (folded_in node) (moved_on s hears_is.stage way) t hears_is.event hears_is.goes in
    let next = led_heard source node is_node s m way more hears_is.stage hears_is.event t is are carries hears_is.is
    (λ before after. can before (ap (λ (u : UpSession). u.stage) up ∙ after)) shown hears_is.goes in
    (subst (AllOf (Holds source.links)) (sym hears_is.makes) next.0, next.1)

-- ---- a node that took more

-- what it has folded goes on
pub led_goes_on : (source node more : Stored) (s : SimSession) → more.schema ≡ node.schema → IsStore more → GrowsInto node.folded more.folded → IsLed source node s → IsLed source more s
led_goes_on source node more s schema store grows is = record {
  schema = is.schema;
  says = is.says;
  unknown = is.unknown;
  goes_on = is.goes_on;
  shown = more_shown node more s.reader store schema grows is.shown;
  idle = is.idle;
  line = is.line;
  is_line = is.is_line;
  begun = is.begun;
  start = is.start;
  messages = is.messages;
  carried = is.carried;
  awaits = ⊎_elim (λ (silent : (is.messages ≡ []) × (is_behind (folded_in node) s ≡ true)). inl (silent.0, behind silent.1))
      (λ (a : Awaits source.schema is.line s.reader.shown s.up.asked s.up.stage s.reader.monitors is.messages). inr a) is.awaits;
}
  where
    behind : is_behind (folded_in node) s ≡ true → is_behind (folded_in more) s ≡ true
    behind e = over_later (folded_in node) (folded_in more) (Some s.begun)
        (subst (λ (v : SchemaValue). StepsGoOn (folded_in node).steps (steps_of v.description.tables no_rows more.folded)) (sym schema) (grown_steps (tables_of node) node.folded more.folded grows)) e

pub led_grows : (source node more : Stored) (s : SimSession) → Extends node more → IsLed source node s → IsLed source more s
led_grows source node more s extends is = led_goes_on source node more s extends.schema extends.store extends.grows is
