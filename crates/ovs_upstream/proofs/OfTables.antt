-- A message brings one link at most, which is of the schema's tables.
use Rattle.std.proofs.Common.{◌≡◌, ◌==◌, ◌^◌, ◌≤◌, ℕ, Bool, true, false, cond, List, [], ◌∷◌, length, Ok, Err, refl, sym, subst, arith}
use Rattle.std.specs.Prelude.{Result, nat_le, IfOk, IfSome, Option, Some, None}
use Rattle.std.specs.FinMap.{len as map_len}
use Rattle.serde_json.specs.Data.{Data}
use Rattle.ovs_json.specs.Gives.{Gives}
use Rattle.ovs_json.specs.Results.{◌>>=◌}
use Rattle.ovs_types.specs.Schema.{SchemaValue}
use Rattle.ovs_types.specs.SchemaReading.{read_description}
use Rattle.ovs_types.specs.declared.schema.Table.{Table}
use Rattle.ovs_rows.specs.declared.error.ChangeError.{ChangeError}
use Rattle.ovs_rows.specs.After.{after, fits}
use Rattle.ovs_rows.specs.Change.{Actions, IsChangeOf}
use Rattle.ovs_rows.specs.ChangeReading.{read_change}
use Rattle.ovs_rows.proofs.ChangeLaws.{found}
use Rattle.ovs_rows.proofs.ChangeTables.{of_tables}
use Rattle.ovs_rows.proofs.Laws.{difference_of_tables, no_rows_of, rows_after}
use Rattle.ovs_rows.specs.Database.{DatabaseValue}
use Rattle.ovs_rows.specs.DatabaseDifference.{database_difference}
use Rattle.ovs_rows.specs.Row.{no_rows, AreRowsOf}
use Rattle.ovs_links.specs.Sets.{AllOf, IsOfTables}
use Rattle.ovs_links.specs.declared.link.Link.{Link}
use Rattle.ovs_upstream.specs.Requests.{monitor_request}
use Rattle.ovs_json.specs.Parts.{is_empty_object}
use Rattle.ovs_upstream.specs.Talk.{Talk, Schema, Reached, Update, Aside, Improper}
use Rattle.ovs_upstream.specs.Hearing.{Hearing, heard, says, opened, are_ends, change_in, made, linked, placed, unmoved, led, compared, copied, reached, hears_at, links_in}
use Rattle.ovs_upstream.specs.Session.{IsDatabaseOf, IsOfSchema}
use Rattle.ovs_upstream.specs.declared.error.UpError.{UpError}
use Rattle.ovs_upstream.specs.declared.error.UpError.TheVariants.{OtherSchema, BadId, NoMemory}
use Rattle.ovs_upstream.specs.declared.up_event.UpEvent.{UpEvent}
use Rattle.ovs_upstream.specs.declared.up_event.UpEvent.TheVariants as event
use Rattle.ovs_upstream.specs.declared.up_session.Heard.{Heard}
use Rattle.ovs_upstream.specs.declared.up_session.SyncState.{SyncState}
use Rattle.ovs_upstream.specs.declared.up_session.SyncState.TheVariants as stage
use Rattle.ovs_upstream.specs.declared.up_session.UpSession.{UpSession}
use Rattle.ovs_upstream.proofs.Runs.{NoLinks}

abbrev pub AreOf : List Table → Heard → Type 0
AreOf tables h = AllOf (IsOfTables tables) (links_in h.event) × (length (links_in h.event) ≤ 1)

no_links : (tables : List Table) → AllOf (IsOfTables tables) [] × (length {A = Link} [] ≤ 1)
no_links tables = (tt, omega arith)

abbrev same : Hearing → Hearing → Type 0
same r q = r ≡ q

given : (tables : List Table) (x h : Heard) → AreOf tables x → same (Ok x) (Ok h) → AreOf tables h
given tables x h are e = let one : x ≡ h = cc in subst (AreOf tables) one are

linked_of : (tables : List Table) (prev id : ℕ) (d : Data) (h : Heard) → linked tables prev id d ≡ Ok h → AreOf tables h
linked_of tables prev id d h = by (are_ends prev id) (read_change tables d) refl
  where
    by : (b : Bool) (r : Result Actions ChangeError) → read_change tables d ≡ r → cond b (change_in r >>= made prev id) (Err BadId) ≡ Ok h → AreOf tables h
    by true (Ok c) read e = given tables (record { stage = stage.At id; event = event.Links (record { prev = prev; id = id; change = c } ∷ []) }) h ((of_tables tables d c (found tables d c read), tt), omega arith) e
    by true (Err fault) read e = absurd (cc e)
    by false r read e = absurd (cc e)

placed_of : (tables : List Table) (b : Bool) (id : ℕ) (h : Heard) → placed b id ≡ Ok h → AreOf tables h
placed_of tables true id h e = given tables (record { stage = stage.At id; event = event.Nothing }) h (no_links tables) e
placed_of tables false id h e = absurd (cc e)

either : (tables : List Table) (b : Bool) (x y : Hearing) (h : Heard) → (x ≡ Ok h → AreOf tables h) → (y ≡ Ok h → AreOf tables h) → cond b x y ≡ Ok h → AreOf tables h
either tables true x y h f g e = f e
either tables false x y h f g e = g e

-- ---- a whole copy

unmoved_of : (tables : List Table) (id : ℕ) (difference : Actions) (h : Heard) → unmoved id difference ≡ Ok h → AreOf tables h
unmoved_of tables id difference h = either tables (map_len difference == 0) (heard (stage.At id) event.Nothing) (Err BadId) h
    (given tables (record { stage = stage.At id; event = event.Nothing }) h (no_links tables)) (λ e. absurd (cc e))

made_of : (tables : List Table) (prev id : ℕ) (c : Actions) (h : Heard) → IsChangeOf tables c → made prev id c ≡ Ok h → AreOf tables h
made_of tables prev id c h of e = given tables (record { stage = stage.At id; event = event.Links (record { prev = prev; id = id; change = c } ∷ []) }) h ((of, tt), omega arith) e

led_of : (tables : List Table) (asked id : ℕ) (difference : Actions) (h : Heard) → IsChangeOf tables difference → led asked id difference ≡ Ok h → AreOf tables h
led_of tables asked id difference h of = either tables (id == asked) (unmoved id difference) (made asked id difference) h
    (unmoved_of tables id difference h) (made_of tables asked id difference h of)

compared_of : (k : DatabaseValue) (asked id : ℕ) (c : Actions) (h : Heard) → AreRowsOf k.schema.description.tables k.rows → IsChangeOf k.schema.description.tables c
    → compared k asked id c ≡ Ok h → AreOf k.schema.description.tables h
compared_of k asked id c h rows of =
    let tables = k.schema.description.tables in
    let copy = after tables no_rows c id in
    either tables (fits no_rows c) (led asked id (database_difference tables k.rows copy)) (made 0 id c) h
    (led_of tables asked id (database_difference tables k.rows copy) h (difference_of_tables tables k.rows copy rows (rows_after tables no_rows c id (no_rows_of tables) of)))
    (made_of tables 0 id c h of)

copied_of : (s : UpSession) (k : Option DatabaseValue) (id : ℕ) (d : Data) (h : Heard) → IfSome k (IsDatabaseOf s.schema) → copied k s id d ≡ Ok h
    → AreOf s.schema.description.tables h
copied_of s None id d h of e = linked_of s.schema.description.tables 0 id d h e
copied_of s (Some k) id d h of e =
    subst (λ (schema : SchemaValue). AreOf schema.description.tables h) of.same (by (read_change k.schema.description.tables d) refl e)
  where
    by : (r : Result Actions ChangeError) → read_change k.schema.description.tables d ≡ r → (change_in r >>= compared k s.asked id) ≡ Ok h → AreOf k.schema.description.tables h
    by (Ok c) read e = compared_of k s.asked id c h of.rows (of_tables k.schema.description.tables d c (found k.schema.description.tables d c read)) e
    by (Err fault) read e = absurd (cc e)

reached_of : (s : UpSession) → IsOfSchema s → (known : Bool) (id : ℕ) (d : Data) (h : Heard) → reached s known id d ≡ Ok h → AreOf s.schema.description.tables h
reached_of s of true id d h = either s.schema.description.tables (id == s.asked) (placed (is_empty_object d) id) (linked s.schema.description.tables s.asked id d) h
    (placed_of s.schema.description.tables (is_empty_object d) id h) (linked_of s.schema.description.tables s.asked id d h)
reached_of s of false id d h = either s.schema.description.tables (nat_le (2 ^ 64) id) (copied s.known s id d) (placed (is_empty_object d) id) h
    (copied_of s s.known id d h of) (placed_of s.schema.description.tables (is_empty_object d) id h)

opened_of : (s : UpSession) (d : Data) (h : Heard) → opened s d ≡ Ok h → AreOf s.schema.description.tables h
opened_of s d h = by (says s.schema.description (read_description d))
  where
    by : (b : Bool) → cond b (heard stage.Asking (event.Send (monitor_request s.schema s.asked))) (Err OtherSchema) ≡ Ok h → AreOf s.schema.description.tables h
    by true e = given s.schema.description.tables (record { stage = stage.Asking; event = event.Send (monitor_request s.schema s.asked) }) h (no_links s.schema.description.tables) e
    by false e = absurd (cc e)

aside_of : (tables : List Table) (at : SyncState) (e : UpEvent) (h : Heard) → links_in e ≡ [] → heard at e ≡ Ok h → AreOf tables h
aside_of tables at e h quiet same = given tables (record { stage = at; event = e }) h (subst (λ (ls : List Link). AllOf (IsOfTables tables) ls × (length ls ≤ 1)) (sym quiet) (no_links tables)) same

heard_of : (at : SyncState) (s : UpSession) → IsOfSchema s → (t : Talk) (h : Heard) → NoLinks t → hears_at at s t ≡ Ok h → AreOf s.schema.description.tables h
heard_of stage.Ended s of t h quiet e = absurd (cc e)
heard_of stage.Opening s of (Aside x) h quiet e = aside_of s.schema.description.tables stage.Opening x h quiet e
heard_of stage.Asking s of (Aside x) h quiet e = aside_of s.schema.description.tables stage.Asking x h quiet e
heard_of (stage.At p) s of (Aside x) h quiet e = aside_of s.schema.description.tables (stage.At p) x h quiet e
heard_of stage.Opening s of (Schema d) h quiet e = opened_of s d h e
heard_of stage.Asking s of (Reached known id d) h quiet e = reached_of s of known id d h e
heard_of (stage.At p) s of (Update id d) h quiet e = linked_of s.schema.description.tables p id d h e
heard_of stage.Opening s of (Reached known id d) h quiet e = absurd (cc e)
heard_of stage.Opening s of (Update id d) h quiet e = absurd (cc e)
heard_of stage.Opening s of Improper h quiet e = absurd (cc e)
heard_of stage.Asking s of (Schema d) h quiet e = absurd (cc e)
heard_of stage.Asking s of (Update id d) h quiet e = absurd (cc e)
heard_of stage.Asking s of Improper h quiet e = absurd (cc e)
heard_of (stage.At p) s of (Schema d) h quiet e = absurd (cc e)
heard_of (stage.At p) s of (Reached known id d) h quiet e = absurd (cc e)
heard_of (stage.At p) s of Improper h quiet e = absurd (cc e)

-- so does what a call gives
pub given_of : (s : UpSession) → IsOfSchema s → (t : Talk) (r : Result Heard UpError) → NoLinks t → Gives NoMemory (λ h. h) r (hears_at s.stage s t)
    → IfOk r (λ h. AreOf s.schema.description.tables h)
given_of s of t (Ok h) quiet gives = heard_of s.stage s of t h quiet gives
given_of s of t (Err e) quiet gives = tt
