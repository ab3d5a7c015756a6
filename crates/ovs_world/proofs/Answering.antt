-- What a relay's requests are answered, and how it hears the answers.
use Rattle.std.proofs.Common.{◌≡◌, ℕ, suc, ◌+◌, ◌<◌, ◌≤◌, List, [], ◌∷◌, ◌++◌, Bool, true, false, cond, length, take, Option, Some, None, Ok, Err, refl, sym, ap, subst, ◌∙◌, inl, arith}
use Rattle.std.specs.Prelude.{◌==◌, codes, option_and_then, option_map}
use Rattle.std.specs.List.{position_from}
use Rattle.std.specs.Option.{ok_or}
use Rattle.std.specs.Cmp.Lexicographic.{bytes_decides}
use Rattle.std.proofs.lemmas.Bool.{eqb-true}
use Rattle.serde_json.specs.Data.{Data, null, string}
use Rattle.ovs_json.specs.Results.{◌>>=◌}
use Rattle.ovs_json.proofs.SameLemmas.{same_itself}
use Rattle.ovs_data.proofs.Ids.{id_reads_back}
use Rattle.ovs_types.specs.Id.{id_text, read_id}
use Rattle.ovs_types.specs.Schema.{SchemaValue}
use Rattle.ovs_types.specs.SchemaReading.{read_description}
use Rattle.ovs_types.specs.contracts.schema.Description as description_row
use Rattle.ovs_types.specs.declared.schema.Table.{Table}
use Rattle.ovs_rows.specs.Row.{Rows, no_rows}
use Rattle.ovs_rows.specs.After.{after}
use Rattle.ovs_links.specs.Chains.{head_after, start_of}
use Rattle.ovs_links.specs.Link.{IsStart}
use Rattle.ovs_links.specs.Steps.{FoldedValue, folded_of, steps_of}
use Rattle.ovs_links.specs.StepChains.{position_in, start_at}
use Rattle.ovs_links.proofs.StepLemmas.{start_steps}
use Rattle.ovs_links.specs.declared.link.Link.{Link}
use Rattle.ovs_query.specs.MonitorReading.{read_monitor}
use Rattle.ovs_query.specs.declared.monitor.Notation.TheVariants.{Update3}
use Rattle.ovs_reader.specs.Answers as answers
use Rattle.ovs_reader.specs.Params.{Asking, is}
use Rattle.ovs_reader.specs.Session.{SessionValue}
use Rattle.ovs_reader.specs.Turns.{turn, after_turn, turn_by, turn_of, monitors_by, monitors_after}
use Rattle.ovs_reader.specs.declared.refusal.RequestRefusal.TheVariants.{UnknownDatabase, BadParams}
use Rattle.ovs_reader.specs.declared.subscription.Subscription.{Subscription}
use Rattle.ovs_upstream.specs.Hearing.{heard, hears, opening, says}
use Rattle.ovs_upstream.specs.Lawful.{IsAt}
use Rattle.ovs_upstream.specs.Requests.{CanBeAsked, schema_request, monitor_request, monitor_params, requests}
use Rattle.ovs_upstream.specs.Talk.{Reached, talk_of, answer_said, object_in}
use Rattle.ovs_upstream.specs.declared.error.UpError.TheVariants.{OtherSchema}
use Rattle.ovs_upstream.specs.declared.up_event.UpEvent.TheVariants.{Send}
use Rattle.ovs_upstream.specs.declared.up_session.SyncState.TheVariants as stage
use Rattle.ovs_wire.specs.declared.message.Message.{Message}
use Rattle.ovs_wire.specs.declared.message.Message.TheVariants.{Reply}
use Rattle.ovs_world.specs.Asking.{schema_reply, whole_monitor}
use Rattle.ovs_world.specs.Awaiting.{IsRelayMonitor, TellsPlace}
use Rattle.ovs_world.proofs.Asking.{read_whole, shows_all}

-- ---- the schema

same_name : (name : List ℕ) → is name name ≡ true
same_name name = (bytes_decides name name).1 refl

pub schema_answered : (f : FoldedValue) (s : SessionValue) → s.is_ended ≡ false
    → ((turn s f (schema_request f.database.schema)).out ≡ Some (schema_reply f.database.schema))
    × ((after_turn s f (schema_request f.database.schema)).monitors ≡ s.monitors)
schema_answered f s goes_on =
    let schema = f.database.schema in
    let name = schema.description.name in
    let id = string (codes "schema") in
    let no_more : Asking (List Data) = Ok [] in
    let reached = answers.answer s.monitors f (codes "get_schema") (string name ∷ []) in
    let is : reached ≡ Ok (answers.Replies schema.json) = ap (λ b. cond b no_more (Err UnknownDatabase) >>= λ rest. Ok (answers.Replies schema.json)) (same_name name) in (
      ap (λ b. (turn_by (cond b None (Some (id, reached)))).out) goes_on ∙ ap (λ a. (turn_of id a).out) is,
      ap (λ b. monitors_by (cond b None (Some (id, reached))) s.monitors) goes_on ∙ ap (λ a. monitors_after a s.monitors) is,
    )

pub schema_heard : (schema : SchemaValue) (asked : ℕ) → read_description schema.json ≡ Ok schema.description
    → hears (opening schema asked) (schema_reply schema) ≡ heard stage.Asking (Send (monitor_request schema asked))
schema_heard schema asked reads =
    ap (λ r. cond (says schema.description r) (heard stage.Asking (Send (monitor_request schema asked))) (Err OtherSchema)) reads
    ∙ ap (λ b. cond b (heard stage.Asking (Send (monitor_request schema asked))) (Err OtherSchema)) (same_itself description_row.the_row.coded schema.description)

-- ---- where an id stands

found_at : (tables : List Table) (start id : ℕ) (rows : Rows) (chain : List Link) (i k : ℕ) → position_from (λ s. s.id == id) i (steps_of tables rows chain) ≡ Some k
    → (j : ℕ) × (k ≡ i + j) × (j < length chain) × (head_after start (take (suc j) chain) ≡ id)
found_at tables start id rows [] i k e = absurd cc
found_at tables start id rows (l ∷ chain) i k e = by (found_at tables l.id id (after tables rows l.change l.id) chain (i + 1) k) (l.id == id) refl e
  where
    by : (position_from (λ s. s.id == id) (i + 1) (steps_of tables (after tables rows l.change l.id) chain) ≡ Some k → (j : ℕ) × (k ≡ i + 1 + j) × (j < length chain) × (head_after l.id (take (suc j) chain) ≡ id))
        → (b : Bool) → (l.id == id) ≡ b → cond b (Some i) (position_from (λ s. s.id == id) (i + 1) (steps_of tables (after tables rows l.change l.id) chain)) ≡ Some k
        → (j : ℕ) × (k ≡ i + j) × (j < length (l ∷ chain)) × (head_after start (take (suc j) (l ∷ chain)) ≡ id)
    by others true at e = (let same : i ≡ k = cc e in (0, omega (arith, same), omega arith, eqb-true l.id id at))
    by others false at e = (let later = others e in (suc later.0, omega (arith, later.1), omega (arith, later.2), later.3))

stands_at : (schema : _) (chain : List Link) (asked k : ℕ) → position_in (folded_of schema chain) asked ≡ Some k → IsAt chain asked k
stands_at schema chain asked k e = by (asked == start_at (folded_of schema chain)) refl e
  where
    begins : start_at (folded_of schema chain) ≡ start_of chain
    begins = start_steps schema.description.tables no_rows chain

    by : (b : Bool) → (asked == start_at (folded_of schema chain)) ≡ b → cond b (Some 0) (position_from (λ s. s.id == asked) 1 (steps_of schema.description.tables no_rows chain)) ≡ Some k → IsAt chain asked k
    by true at e =
        (let same : 0 ≡ k = cc e in let first : asked ≡ start_at (folded_of schema chain) = eqb-true asked (start_at (folded_of schema chain)) at in subst (IsAt chain asked) same (omega arith, sym (first ∙ begins)))
    by false at e =
        let found = found_at schema.description.tables (start_of chain) asked no_rows chain 1 k e in
        let same : suc found.0 ≡ k = omega (arith, found.1) in
        subst (IsAt chain asked) same (omega (arith, found.2), found.3)

-- ---- the monitor

module _ (schema : SchemaValue) (chain : List Link) (asked : ℕ) (can : CanBeAsked schema asked) where
  abbrev tables : List Table
  tables = schema.description.tables

  abbrev folded : FoldedValue
  folded = folded_of schema chain

  abbrev behind_name : List Data
  behind_name = string (codes "relay") ∷ requests tables ∷ string (id_text asked) ∷ []

  -- what comes of the request once its params are read
  abbrev started : Data × Data × ℕ → Asking answers.RequestOutcome
  started parts = answers.monitor_or_refusal (read_monitor Update3 tables parts.1) >>= λ monitor. Ok (answers.starts_at (start_at folded) parts.0 monitor parts.2 (position_in folded parts.2))

  starts : answers.answer [] folded (codes "monitor_cond_since") (monitor_params schema asked)
      ≡ Ok (answers.starts_at (start_at folded) (string (codes "relay")) (whole_monitor tables) asked (position_in folded asked))
  starts =
      ap (λ b. cond b (Ok behind_name) (Err UnknownDatabase) >>= answers.start_since folded) (same_name schema.description.name)
      ∙ ap (λ o. (ok_or o BadParams >>= λ since. Ok (string (codes "relay"), requests tables, since)) >>= started) can.id_back
      ∙ ap (λ r. answers.monitor_or_refusal r >>= λ monitor. Ok (answers.starts_at (start_at folded) (string (codes "relay")) monitor asked (position_in folded asked))) (read_whole schema asked can)

  -- a relay's monitor at this place
  abbrev made : ℕ → Subscription
  made k = record { id = string (codes "relay"); monitor = whole_monitor tables; position = k }

  abbrev reply : Bool → ℕ → Message
  reply known id = Reply (answers.reached known id) null (string (codes "monitor"))

  says_place : (known : Bool) (id : ℕ) → read_id (id_text id) ≡ Some id → talk_of (reply known id) ≡ Reached known id answers.empty_object
  says_place known id back = ap (λ o. answer_said (option_and_then (λ id. option_map (λ updates. (known, id, updates)) (object_in answers.empty_object)) o)) back

  module _ (s : SessionValue) (goes_on : s.is_ended ≡ false) (new : s.monitors ≡ []) (k : ℕ) (known : Bool) (id : ℕ)
      (comes : answers.answer [] folded (codes "monitor_cond_since") (monitor_params schema asked) ≡ Ok (answers.Starts (answers.reached known id) (made k))) where
    abbrev reached : Asking answers.RequestOutcome
    reached = answers.answer s.monitors folded (codes "monitor_cond_since") (monitor_params schema asked)

    reached_is : reached ≡ Ok (answers.Starts (answers.reached known id) (made k))
    reached_is = ap (λ ms. answers.answer ms folded (codes "monitor_cond_since") (monitor_params schema asked)) new ∙ comes

    out_is : (turn s folded (monitor_request schema asked)).out ≡ Some (reply known id)
    out_is = ap (λ b. (turn_by (cond b None (Some (string (codes "monitor"), reached)))).out) goes_on ∙ ap (λ a. (turn_of (string (codes "monitor")) a).out) reached_is

    monitors_are : (after_turn s folded (monitor_request schema asked)).monitors ≡ made k ∷ []
    monitors_are =
        ap (λ b. monitors_by (cond b None (Some (string (codes "monitor"), reached))) s.monitors) goes_on ∙ ap (λ a. monitors_after a s.monitors) reached_is
        ∙ ap (λ (ms : List Subscription). ms ++ made k ∷ []) new

  is_relays : (k : ℕ) → IsRelayMonitor tables (made k)
  is_relays k = record { named = refl; notation = refl; whole = shows_all schema asked can }

pub monitor_answered : (schema : SchemaValue) (chain : List Link) (s : SessionValue) (asked : ℕ) → IsStart (start_of chain) → CanBeAsked schema asked → s.is_ended ≡ false → s.monitors ≡ []
    → (m : Subscription) × (reply : Message) × IsRelayMonitor schema.description.tables m × (m.position ≤ length chain)
    × ((turn s (folded_of schema chain) (monitor_request schema asked)).out ≡ Some reply)
    × ((after_turn s (folded_of schema chain) (monitor_request schema asked)).monitors ≡ m ∷ [])
    × TellsPlace schema.description.tables chain asked m.position (talk_of reply)
monitor_answered schema chain s asked below can goes_on new = by (position_in (folded_of schema chain) asked) refl
  where
    by : (o : Option ℕ) → position_in (folded_of schema chain) asked ≡ o
        → (m : Subscription) × (reply : Message) × IsRelayMonitor schema.description.tables m × (m.position ≤ length chain)
        × ((turn s (folded_of schema chain) (monitor_request schema asked)).out ≡ Some reply)
        × ((after_turn s (folded_of schema chain) (monitor_request schema asked)).monitors ≡ m ∷ [])
        × TellsPlace schema.description.tables chain asked m.position (talk_of reply)
    by (Some k) at =
        let comes = starts schema chain asked can ∙ ap (λ o. Ok (answers.starts_at (start_at (folded_of schema chain)) (string (codes "relay")) (whole_monitor schema.description.tables) asked o)) at in
        let place = stands_at schema chain asked k at in (
          made schema chain asked can k,
          reply schema chain asked can true asked,
          is_relays schema chain asked can k,
          place.0,
          out_is schema chain asked can s goes_on new k true asked comes,
          monitors_are schema chain asked can s goes_on new k true asked comes,
          subst (TellsPlace schema.description.tables chain asked k) (sym (says_place schema chain asked can true asked can.id_back)) (inl (refl, refl, place)),
        )
    by None at =
        let start = start_at (folded_of schema chain) in
        let begins : start ≡ start_of chain = start_steps schema.description.tables no_rows chain in
        let comes = starts schema chain asked can ∙ ap (λ o. Ok (answers.starts_at (start_at (folded_of schema chain)) (string (codes "relay")) (whole_monitor schema.description.tables) asked o)) at in (
          made schema chain asked can 0,
          reply schema chain asked can false start,
          is_relays schema chain asked can 0,
          omega arith,
          out_is schema chain asked can s goes_on new 0 false start comes,
          monitors_are schema chain asked can s goes_on new 0 false start comes,
          subst (TellsPlace schema.description.tables chain asked 0) (sym (says_place schema chain asked can false start (id_reads_back start (omega (arith, below, begins)))))
              (inl (begins, refl, refl)),
        )
