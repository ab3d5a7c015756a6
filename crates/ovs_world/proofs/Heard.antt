-- What is on its way to a relay is heard.
use Rattle.std.proofs.Common.{arith, ◌≡◌, ◌⊎◌, inl, inr, ℕ, zero, suc, Bool, true, false, cond, List, [], ◌∷◌, Some, None, Ok, refl, sym, ◌∙◌, ap, subst}
use Rattle.std.proofs.lemmas.Bool.Decides.{nat_tests}
use Rattle.std.specs.Prelude.{slice_get, nat_le, ◌^◌}
use Rattle.serde_json.specs.Data.{Data}
use Rattle.ovs_json.specs.Parts.{is_empty_object}
use Rattle.ovs_types.specs.Schema.{SchemaValue}
use Rattle.ovs_types.specs.SchemaReading.{read_description}
use Rattle.ovs_types.specs.declared.schema.Table.{Table}
use Rattle.ovs_links.specs.Chains.{start_of}
use Rattle.ovs_links.specs.Link.{IsStart}
use Rattle.ovs_links.specs.Sets.{Among}
use Rattle.ovs_links.specs.declared.link.Link.{Link}
use Rattle.ovs_reader.specs.declared.subscription.Subscription.{Subscription}
use Rattle.ovs_upstream.proofs.Runs.{IsLine, linked_at, at_next, at_start, next_is_other, same_test, other_test, large_test}
use Rattle.ovs_upstream.specs.Hearing.{Hearing, copied, hears, hears_at, linked, placed, reached}
use Rattle.ovs_upstream.specs.Lawful.{IsAt, IsLinkAt, Answers}
use Rattle.ovs_upstream.specs.Requests.{monitor_request}
use Rattle.ovs_upstream.specs.Talk.{Talk, Schema, Reached, Update, Aside, Improper, talk_of}
use Rattle.ovs_upstream.specs.declared.up_event.UpEvent.TheVariants.{Links, Send, Nothing}
use Rattle.ovs_upstream.specs.declared.up_session.Heard.{Heard}
use Rattle.ovs_upstream.specs.declared.up_session.SyncState.{SyncState}
use Rattle.ovs_upstream.specs.declared.up_session.SyncState.TheVariants.{Opening, Asking, At, Ended}
use Rattle.ovs_upstream.specs.declared.up_session.UpSession.{UpSession}
use Rattle.ovs_wire.specs.declared.message.Message.{Message}
use Rattle.ovs_world.specs.Asking.{schema_reply}
use Rattle.ovs_world.specs.Awaiting.{TellsPlace, TellsLink, TellLinks}
use Rattle.ovs_world.specs.Leading.{HasMonitor, AwaitsSchema, AwaitsAnswer, AwaitsLinks, Awaits}
use Rattle.ovs_world.proofs.Answering.{schema_heard}

among_at : (ls : List Link) (k : ℕ) (l : Link) → slice_get ls k ≡ Some l → Among ls l
among_at [] k l e = absurd (let n : None ≡ Some l = e in cc)
among_at (m ∷ ms) zero l e = inl (let s : m ≡ l = cc in sym s)
among_at (m ∷ ms) (suc k) l e = inr (among_at ms k l e)

small_test : (id : ℕ) → IsStart id → nat_le (2 ^ 64) id ≡ false
small_test id below = grind (arith, nat_tests)

-- ---- the answer, and updates: the session stands behind so many links, and has made at most the last of them

pub record StandsBehind (ls : List Link) (h : Heard) (k : ℕ) : Type 0 where
  pub id : ℕ
  pub stage : h.stage ≡ At id
  pub stands : IsAt ls id k
  pub event : (h.event ≡ Nothing) ⊎ ((l : Link) × (h.event ≡ Links (l ∷ [])) × Among ls l)

behind_link : (tables : List Table) (ls : List Link) (k id : ℕ) (d : Data) → (i : IsLinkAt tables ls k id d)
    → StandsBehind ls (record { stage = At i.link.id; event = Links (i.link ∷ []) }) (suc k)
behind_link tables ls k id d i = record {
  id = i.link.id;
  stage = refl;
  stands = at_next tables ls k id d i;
  event = inr (i.link, refl, among_at ls k i.link i.found);
}

module _ (s : UpSession) (none : s.known ≡ None) (ls : List Link) (line : IsLine s.schema.description.tables ls) where
  abbrev tables : List Table
  tables = s.schema.description.tables

  abbrev Leads : Hearing → ℕ → Type 0
  Leads hearing k = (h : Heard) × (hearing ≡ Ok h) × StandsBehind ls h k

  update_heard : (p k id : ℕ) (d : Data) → IsAt ls p k → IsLinkAt tables ls k id d → Leads (linked tables p id d) (suc k)
  update_heard p k id d at i = (_, linked_at tables ls p k id d line at i, behind_link tables ls k id d i)

  answer_heard : (known : Bool) (id : ℕ) (d : Data) (k : ℕ) → Answers tables ls s.asked known id d k → Leads (reached s known id d) k
  answer_heard true id d k (inl a) = (
    record { stage = At id; event = Nothing },
    ap (λ b. cond b (placed (is_empty_object d) id) (linked tables s.asked id d)) (same_test id s.asked a.0) ∙ ap (λ b. placed b id) a.1,
    record { id = id; stage = refl; stands = subst (λ n. IsAt ls n k) (sym a.0) a.2; event = inl refl },
  )
  answer_heard true id d k (inr a) =
      let i = a.3 in
      let ends = next_is_other tables ls s.asked a.0 id d line a.2 i in (
        _,
        ap (λ b. cond b (placed (is_empty_object d) id) (linked tables s.asked id d)) (other_test id s.asked ends.1)
            ∙ linked_at tables ls s.asked a.0 id d line a.2 i,
        subst (StandsBehind ls (record { stage = At i.link.id; event = Links (i.link ∷ []) })) (sym a.1) (behind_link tables ls a.0 id d i),
      )
  answer_heard false id d k (inl a) = (
    record { stage = At id; event = Nothing },
    ap (λ b. cond b (copied s.known s id d) (placed (is_empty_object d) id)) (small_test id (subst IsStart (sym a.0) line.start)) ∙ ap (λ b. placed b id) a.1,
    record {
      id = id;
      stage = refl;
      stands = subst (λ n. IsAt ls n k) (sym a.0) (subst (IsAt ls (start_of ls)) (sym a.2) (at_start ls));
      event = inl refl;
    },
  )
  answer_heard false id d k (inr a) =
      let i = a.2 in
      let there : IsAt ls 0 0 = subst (λ n. IsAt ls n 0) a.1 (at_start ls) in
      let ends = next_is_other tables ls 0 0 id d line there i in (
        _,
        ap (λ k. cond (nat_le (2 ^ 64) id) (copied k s id d) (placed (is_empty_object d) id)) none
            ∙ ap (λ b. cond b (linked tables 0 id d) (placed (is_empty_object d) id)) (large_test id ends.0) ∙ linked_at tables ls 0 0 id d line there i,
        subst (StandsBehind ls (record { stage = At i.link.id; event = Links (i.link ∷ []) })) (sym a.0) (behind_link tables ls 0 id d i),
      )

  tells_link : (p k : ℕ) (t : Talk) → IsAt ls p k → TellsLink tables ls k t → Leads (hears_at (At p) s t) (suc k)
  tells_link p k (Update id d) at i = update_heard p k id d at i
  tells_link p k (Schema d) at i = absurd i
  tells_link p k (Reached known id d) at i = absurd i
  tells_link p k (Aside e) at i = absurd i
  tells_link p k Improper at i = absurd i

  tells_place : (k : ℕ) (t : Talk) → TellsPlace tables ls s.asked k t → Leads (hears_at Asking s t) k
  tells_place k (Reached known id d) a = answer_heard known id d k a
  tells_place k (Update id d) a = absurd a
  tells_place k (Schema d) a = absurd a
  tells_place k (Aside e) a = absurd a
  tells_place k Improper a = absurd a

-- ---- what is on its way

-- the first message is heard: it is the schema, and the monitor is asked for; or the rest is on its way still
pub record IsHeard (schema : SchemaValue) (ls : List Link) (n : ℕ) (s : UpSession) (monitors : List Subscription) (m : Message) (more : List Message) (h : Heard) : Type 0 where
  pub is : hears s m ≡ Ok h
  pub then : ((h.stage ≡ Asking) × (h.event ≡ Send (monitor_request s.schema s.asked)) × (s.stage ≡ Opening) × (monitors ≡ []) × (more ≡ []))
      ⊎ (((h.event ≡ Nothing) ⊎ ((l : Link) × (h.event ≡ Links (l ∷ [])) × Among ls l)) × Awaits schema ls n s.asked h.stage monitors more)

behind_awaits : (schema : SchemaValue) (ls : List Link) (n : ℕ) (asked : ℕ) (monitors : List Subscription) (m : Subscription) (more : List Message) (h : Heard) (k : ℕ)
    → StandsBehind ls h k → HasMonitor schema.description.tables n monitors m → TellLinks schema.description.tables ls k m.position more
    → Awaits schema ls n asked h.stage monitors more
behind_awaits schema ls n asked monitors m more h k behind has links =
    subst (λ (stage : SyncState). Awaits schema ls n asked stage monitors more) (sym behind.stage)
    (record { monitor = m; has = has; place = k; stands = behind.stands; links = links })

module _ (schema : SchemaValue) (ls : List Link) (is : IsLine schema.description.tables ls)
    (n : ℕ) (s : UpSession) (reads : read_description s.schema.json ≡ Ok s.schema.description) (same : s.schema ≡ schema) (none : s.known ≡ None) (monitors : List Subscription) (m : Message) (more : List Message) where
  abbrev Hears : Type 0
  Hears = (h : Heard) × IsHeard schema ls n s monitors m more h

  line : IsLine s.schema.description.tables ls
  line = subst (λ (v : SchemaValue). IsLine v.description.tables ls) (sym same) is

  schema_first : s.stage ≡ Opening → AwaitsSchema schema monitors (m ∷ more) → Hears
  schema_first at a =
      let all : m ∷ more ≡ schema_reply schema ∷ [] = a.1 in
      let first : m ≡ schema_reply schema = cc in
      let nothing : more ≡ [] = cc in
      let this : m ≡ schema_reply s.schema = first ∙ ap schema_reply (sym same) in (
        record { stage = Asking; event = Send (monitor_request s.schema s.asked) },
        record {
          is = ap (λ stage. hears_at stage s (talk_of m)) at ∙ ap (λ x. hears_at Opening s (talk_of x)) this ∙ schema_heard s.schema s.asked reads;
          then = inl (refl, refl, at, a.0, nothing);
        },
      )

  onward : (k : ℕ) (sub : Subscription) (h : Heard) → hears s m ≡ Ok h → StandsBehind ls h k → HasMonitor schema.description.tables n monitors sub
      → TellLinks schema.description.tables ls k sub.position more → Hears
  onward k sub h heard_is behind has links = (h, record { is = heard_is; then = inr (behind.event, behind_awaits schema ls n s.asked monitors sub more h k behind has links) })

  answer_first : s.stage ≡ Asking → AwaitsAnswer schema.description.tables ls n s.asked monitors (m ∷ more) → Hears
  answer_first at a =
      let all : m ∷ more ≡ a.answer ∷ a.more = a.are in
      let first : a.answer ≡ m = cc in
      let rest : a.more ≡ more = cc in
      let tells : TellsPlace s.schema.description.tables ls s.asked a.place (talk_of m) = subst (λ (v : SchemaValue). TellsPlace v.description.tables ls s.asked a.place (talk_of m)) (sym same)
      (subst (λ x. TellsPlace schema.description.tables ls s.asked a.place (talk_of x)) first a.tells) in
      let t = tells_place s none ls line a.place (talk_of m) tells in
      onward a.place a.monitor t.0 (ap (λ stage. hears_at stage s (talk_of m)) at ∙ t.1) t.2 a.has
      (subst (TellLinks schema.description.tables ls a.place a.monitor.position) rest a.links)

  update_first : (id : ℕ) → s.stage ≡ At id → AwaitsLinks schema.description.tables ls n id monitors (m ∷ more) → Hears
  update_first id at a =
      let tells : TellsLink s.schema.description.tables ls a.place (talk_of m) = subst (λ (v : SchemaValue). TellsLink v.description.tables ls a.place (talk_of m)) (sym same) a.links.0 in
      let t = tells_link s none ls line id a.place (talk_of m) a.stands tells in
      onward (suc a.place) a.monitor t.0 (ap (λ stage. hears_at stage s (talk_of m)) at ∙ t.1) t.2 a.has a.links.1

  by_stage : (stage : SyncState) → s.stage ≡ stage → Awaits schema ls n s.asked stage monitors (m ∷ more) → Hears
  by_stage Opening at a = schema_first at a
  by_stage Asking at a = answer_first at a
  by_stage (At id) at a = update_first id at a
  by_stage Ended at a = absurd a

-- what comes first is heard
pub first_heard : (schema : SchemaValue) (ls : List Link) (n : ℕ) (s : UpSession) (monitors : List Subscription) (m : Message) (more : List Message)
    → IsLine schema.description.tables ls → read_description s.schema.json ≡ Ok s.schema.description → s.schema ≡ schema → s.known ≡ None
    → Awaits schema ls n s.asked s.stage monitors (m ∷ more) → (h : Heard) × IsHeard schema ls n s monitors m more h
first_heard schema ls n s monitors m more is reads same none awaits = by_stage schema ls is n s reads same none monitors m more s.stage refl awaits
