-- What a session makes of a whole copy that knows the database at the id that it asks.
use Rattle.std.proofs.Common.{◌≡◌, ◌≢◌, ◌≤◌, ◌^◌, ◌==◌, ◌&&◌, ℕ, Bool, true, false, cond, List, [], ◌∷◌, ◌++◌, Option, Some, None, Ok, Err, map, refl, sym, ap, ◌∙◌, arith}
use Rattle.std.specs.Prelude.{Result, nat_le, not}
use Rattle.std.specs.FinMap.{empty}
use Rattle.serde_json.specs.Data.{Data}
use Rattle.ovs_json.specs.Results.{◌>>=◌}
use Rattle.ovs_rows.specs.After.{Fits, after, fits}
use Rattle.ovs_rows.specs.Change.{Actions}
use Rattle.ovs_rows.specs.declared.error.ChangeError.{ChangeError}
use Rattle.ovs_rows.specs.ChangeReading.{read_change}
use Rattle.ovs_rows.specs.Database.{DatabaseValue}
use Rattle.ovs_rows.specs.DatabaseDifference.{database_difference, HaveSameData}
use Rattle.ovs_rows.specs.Row.{no_rows, AreRowsOf}
use Rattle.ovs_rows.proofs.ChangeLaws.{found}
use Rattle.ovs_rows.proofs.ChangeTables.{of_tables}
use Rattle.ovs_rows.proofs.Laws.{difference_fits_at, difference_is, difference_of_tables, fits_decides, no_rows_of, rows_after}
use Rattle.ovs_rows.proofs.NoDifference.{none_exactly}
use Rattle.ovs_links.specs.declared.link.Link.{Link}
use Rattle.ovs_wire.specs.declared.message.Message.{Message}
use Rattle.ovs_json.specs.Parts.{is_empty_object}
use Rattle.ovs_upstream.specs.Hearing.{Hearing, are_ends, change_in, copied, derived, derived_of, heard, hears_at, known_at, at_stage, led, linked, links_after, links_in, made, opening, placed, compared, reached, resuming, resynced, unmoved}
use Rattle.ovs_upstream.specs.Resuming.{IsCopy, LeadsToCopy, NoCopies, TellNoCopies}
use Rattle.ovs_upstream.specs.Talk.{Talk, Schema, Reached, Update, Aside, Improper, talk_of}
use Rattle.ovs_upstream.specs.declared.error.UpError.TheVariants.{BadId}
use Rattle.ovs_upstream.specs.declared.up_event.UpEvent.TheVariants as event
use Rattle.ovs_upstream.specs.declared.up_session.SyncState.{SyncState}
use Rattle.ovs_upstream.specs.declared.up_session.SyncState.TheVariants.{Opening, Asking, At, Ended}
use Rattle.ovs_upstream.specs.declared.up_session.UpSession.{UpSession}
use Rattle.ovs_upstream.proofs.Copies.{by_test, empty_test, fits_test, leads_to_data, some_test}
use Rattle.ovs_upstream.proofs.Runs.{large_is, large_test, other_test, same_test}

-- a copy that was read and is one leads by the difference
resynced_at : (known : DatabaseValue) (asked id : ℕ) (d : Data) (copy : Actions) → read_change known.schema.description.tables d ≡ Ok copy → Fits no_rows copy → 2 ^ 64 ≤ id
    → hears_at Asking (resuming known asked) (Reached false id d)
    ≡ led asked id (database_difference known.schema.description.tables known.rows (after known.schema.description.tables no_rows copy id))
resynced_at known asked id d copy read fit large =
    let tables = known.schema.description.tables in
    ap (λ b. cond b (copied (Some known) (resuming known asked) id d) (placed (is_empty_object d) id)) (large_test id large)
    ∙ ap (λ r. change_in r >>= compared known asked id) read
    ∙ ap (λ b. cond b (led asked id (database_difference tables known.rows (after tables no_rows copy id))) (made 0 id copy)) (fits_test no_rows copy fit)

copy_rows : (known : DatabaseValue) (id : ℕ) (d : Data) (copy : Actions) → read_change known.schema.description.tables d ≡ Ok copy
    → AreRowsOf known.schema.description.tables (after known.schema.description.tables no_rows copy id)
copy_rows known id d copy read =
    let tables = known.schema.description.tables in
    rows_after tables no_rows copy id (no_rows_of tables) (of_tables tables d copy (found tables d copy read))

pub led_at : (known : DatabaseValue) (asked id : ℕ) (d : Data) (copy : Actions) → read_change known.schema.description.tables d ≡ Ok copy → Fits no_rows copy → 2 ^ 64 ≤ id → id ≢ asked
    → hears_at Asking (resuming known asked) (Reached false id d)
    ≡ made asked id (database_difference known.schema.description.tables known.rows (after known.schema.description.tables no_rows copy id))
led_at known asked id d copy read fit large other =
    let tables = known.schema.description.tables in
    let difference = database_difference tables known.rows (after tables no_rows copy id) in
    resynced_at known asked id d copy read fit large ∙ ap (λ b. cond b (unmoved id difference) (made asked id difference)) (other_test id asked other)

pub copy_leads : (known : DatabaseValue) (asked id : ℕ) (d : Data) (copy : Actions)
    → AreRowsOf known.schema.description.tables known.rows → read_change known.schema.description.tables d ≡ Ok copy → Fits no_rows copy → 2 ^ 64 ≤ id → id ≢ asked
    → (l : Link) × (hears_at Asking (resuming known asked) (Reached false id d) ≡ heard (At id) (event.Links (l ∷ [])))
    × LeadsToCopy known.schema.description.tables known.rows (after known.schema.description.tables no_rows copy id) asked id l
copy_leads known asked id d copy rows read fit large other =
    let tables = known.schema.description.tables in
    let whole = after tables no_rows copy id in
    let difference = database_difference tables known.rows whole in
    let is = copy_rows known id d copy read in (
      record { prev = asked; id = id; change = difference },
      led_at known asked id d copy read fit large other,
      record {
        prev = refl;
        id_is = refl;
        of_tables = difference_of_tables tables known.rows whole rows is;
        difference = difference_is tables known.rows whole rows is;
        fit = difference_fits_at tables known.rows whole;
        same_data = leads_to_data tables known.rows whole id rows is;
      },
    )

pub copy_unmoved : (known : DatabaseValue) (asked : ℕ) (d : Data) (copy : Actions)
    → AreRowsOf known.schema.description.tables known.rows → read_change known.schema.description.tables d ≡ Ok copy → Fits no_rows copy → 2 ^ 64 ≤ asked
    → HaveSameData known.rows (after known.schema.description.tables no_rows copy asked)
    → hears_at Asking (resuming known asked) (Reached false asked d) ≡ heard (At asked) event.Nothing
copy_unmoved known asked d copy rows read fit large same =
    let tables = known.schema.description.tables in
    let whole = after tables no_rows copy asked in
    let difference = database_difference tables known.rows whole in
    let none = (none_exactly tables known.rows whole rows (copy_rows known asked d copy read)).1 same in
    resynced_at known asked asked d copy read fit large
    ∙ ap (λ b. cond b (unmoved asked difference) (made asked asked difference)) (same_test asked asked refl)
    ∙ ap (λ b. cond b (heard (At asked) event.Nothing) (Err BadId)) (empty_test difference none)

pub copy_refused : (known : DatabaseValue) (asked : ℕ) (d : Data) (copy : Actions)
    → AreRowsOf known.schema.description.tables known.rows → read_change known.schema.description.tables d ≡ Ok copy → Fits no_rows copy → 2 ^ 64 ≤ asked
    → (HaveSameData known.rows (after known.schema.description.tables no_rows copy asked) → ⊥)
    → hears_at Asking (resuming known asked) (Reached false asked d) ≡ Err BadId
copy_refused known asked d copy rows read fit large other =
    let tables = known.schema.description.tables in
    let whole = after tables no_rows copy asked in
    let difference = database_difference tables known.rows whole in
    let some : difference ≡ empty → ⊥ = λ none. other ((none_exactly tables known.rows whole rows (copy_rows known asked d copy read)).0 none) in
    resynced_at known asked asked d copy read fit large
    ∙ ap (λ b. cond b (unmoved asked difference) (made asked asked difference)) (same_test asked asked refl)
    ∙ ap (λ b. cond b (heard (At asked) event.Nothing) (Err BadId)) (some_test difference some)

-- ---- where no whole copy is told, what is known makes no difference

abbrev with_known : DatabaseValue → ℕ → SyncState → Option DatabaseValue → UpSession
with_known k asked stage known = record { schema = k.schema; asked = asked; stage = stage; known = known }

links_same : (h : Hearing) (f g : SyncState → List Link) → ((stage : SyncState) → f stage ≡ g stage) → links_after h f ≡ links_after h g
links_same (Ok h) f g same = ap (λ ls. links_in h.event ++ ls) (same h.stage)
links_same (Err e) f g same = refl

-- after a message that both hear so
later_same : (k : DatabaseValue) (asked : ℕ) (ts : List Talk)
    → ((stage : SyncState) → derived_of (with_known k asked stage (Some k)) ts ≡ derived_of (with_known k asked stage None) ts) → (stage : SyncState)
    → derived_of (with_known k asked stage (known_at stage (Some k))) ts ≡ derived_of (with_known k asked stage (known_at stage None)) ts
later_same k asked ts same Opening = same Opening
later_same k asked ts same Asking = same Asking
later_same k asked ts same (At id) = refl
later_same k asked ts same Ended = same Ended

-- what is no copy is the link from 0
no_copy : (k : DatabaseValue) (asked id : ℕ) (d : Data) → 2 ^ 64 ≤ id → (IsCopy k.schema.description.tables d → ⊥)
    → resynced k asked id d ≡ linked k.schema.description.tables 0 id d
no_copy k asked id d large none = by (read_change k.schema.description.tables d) refl ∙ sym (ap (λ b. cond b from_zero (Err BadId)) ends)
  where
    from_zero : Hearing
    from_zero = change_in (read_change k.schema.description.tables d) >>= made 0 id

    ends : are_ends 0 id ≡ true
    ends = ap (λ b. b && not (id == 0)) (large_test id large) ∙ ap not (other_test id 0 (λ same. omega (arith, large, same)))

    by : (r : Result Actions ChangeError) → read_change k.schema.description.tables d ≡ r
        → (change_in (read_change k.schema.description.tables d) >>= compared k asked id) ≡ from_zero
    by (Err fault) read = ap (λ r. change_in r >>= compared k asked id) read ∙ sym (ap (λ r. change_in r >>= made 0 id) read)
    by (Ok copy) read =
        let unfit : fits no_rows copy ≡ false = by_test (fits no_rows copy) (λ fit. none (copy, read, (fits_decides no_rows copy).0 fit)) in
        let tables = k.schema.description.tables in
        ap (λ r. change_in r >>= compared k asked id) read
        ∙ ap (λ b. cond b (led asked id (database_difference tables k.rows (after tables no_rows copy id))) (made 0 id copy)) unfit
        ∙ sym (ap (λ r. change_in r >>= made 0 id) read)

-- so what is answered is heard the same
answer_same : (k : DatabaseValue) (asked id : ℕ) (d : Data) → (2 ^ 64 ≤ id → IsCopy k.schema.description.tables d → ⊥)
    → reached (with_known k asked Asking (Some k)) false id d ≡ reached (with_known k asked Asking None) false id d
answer_same k asked id d none = by (nat_le (2 ^ 64) id) refl
  where
    by : (b : Bool) → nat_le (2 ^ 64) id ≡ b → reached (with_known k asked Asking (Some k)) false id d ≡ reached (with_known k asked Asking None) false id d
    by true large = ap (λ r. cond (nat_le (2 ^ 64) id) r (placed (is_empty_object d) id)) (no_copy k asked id d (large_is id large) (none (large_is id large)))
    by false small =
        ap (λ b. cond b (resynced k asked id d) (placed (is_empty_object d) id)) small
        ∙ sym (ap (λ b. cond b (linked k.schema.description.tables 0 id d) (placed (is_empty_object d) id)) small)

derived_same : (k : DatabaseValue) (asked : ℕ) (stage : SyncState) (ts : List Talk) → NoCopies k.schema.description.tables ts
    → derived_of (with_known k asked stage (Some k)) ts ≡ derived_of (with_known k asked stage None) ts
derived_same k asked stage [] none = refl
derived_same k asked Ended (t ∷ ts) none = refl
derived_same k asked Opening (Aside e ∷ ts) none = links_same (heard Opening e) _ _ (later_same k asked ts (λ x. derived_same k asked x ts none))
derived_same k asked Asking (Aside e ∷ ts) none = links_same (heard Asking e) _ _ (later_same k asked ts (λ x. derived_same k asked x ts none))
derived_same k asked (At id) (Aside e ∷ ts) none = links_same (heard (At id) e) _ _ (later_same k asked ts (λ x. derived_same k asked x ts none))
derived_same k asked Opening (Schema d ∷ ts) none = links_same (hears_at Opening (with_known k asked Opening None) (Schema d)) _ _ (later_same k asked ts (λ x. derived_same k asked x ts none))
derived_same k asked Asking (Schema d ∷ ts) none = refl
derived_same k asked (At id) (Schema d ∷ ts) none = refl
derived_same k asked Opening (Reached true id d ∷ ts) none = refl
derived_same k asked Opening (Reached false id d ∷ ts) none = refl
derived_same k asked (At p) (Reached true id d ∷ ts) none = refl
derived_same k asked (At p) (Reached false id d ∷ ts) none = refl
derived_same k asked Asking (Reached true id d ∷ ts) none = links_same (hears_at Asking (with_known k asked Asking None) (Reached true id d)) _ _ (later_same k asked ts (λ x. derived_same k asked x ts none))
derived_same k asked Asking (Reached false id d ∷ ts) none =
    let at = λ (known : Option DatabaseValue). with_known k asked Asking known in
    ap (λ h. links_after h (λ stage. derived_of (at_stage (at (Some k)) stage) ts)) (answer_same k asked id d none.0)
    ∙ links_same (reached (at None) false id d) _ _ (later_same k asked ts (λ x. derived_same k asked x ts none.1))
derived_same k asked Opening (Update id d ∷ ts) none = refl
derived_same k asked Asking (Update id d ∷ ts) none = refl
derived_same k asked (At p) (Update id d ∷ ts) none = links_same (hears_at (At p) (with_known k asked (At p) None) (Update id d)) _ _ (later_same k asked ts (λ x. derived_same k asked x ts none))
derived_same k asked Opening (Improper ∷ ts) none = refl
derived_same k asked Asking (Improper ∷ ts) none = refl
derived_same k asked (At p) (Improper ∷ ts) none = refl

pub same_derived : (known : DatabaseValue) (asked : ℕ) (messages : List Message) → TellNoCopies known.schema.description.tables messages
    → derived (resuming known asked) messages ≡ derived (opening known.schema asked) messages
same_derived known asked messages none = derived_same known asked Opening (map talk_of messages) none
