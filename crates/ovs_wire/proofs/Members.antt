-- A member taken out of an object.
use Rattle.std.proofs.Common.{◌≡◌, ℕ, List, [], ◌∷◌, Some, Bool, true, false, cond, is_eq, nat_cmp, string_bytes, refl, sym, ap, ◌∙◌}
use Rattle.std.proofs.lemmas.Map.Text.{is_eq-slice_cmp}
use Rattle.std.proofs.lemmas.Slice.Eq.{bytes_eq-Decides}
use Rattle.std.specs.Cmp.Lexicographic.{slice_cmp}
use Rattle.std.specs.Ordering.{match_ordering}
use Rattle.std.specs.Map.{remove_entry}
use Rattle.std.specs.BTreeMap.{is_at}
use Rattle.serde_json.specs.Find.{get_member}
use Rattle.serde_json.specs.View.{view, members_view}
use Rattle.serde_json.proofs.Views.{Entry, member_later}

-- by the test of the first entry's name
get_member-remove_by : (b : Bool) (name k : List ℕ) (e : Entry) (es rest : List Entry)
    → is_eq (slice_cmp nat_cmp name (string_bytes e.0)) ≡ b → (k ≡ name → ⊥)
    → get_member k (members_view rest) ≡ get_member k (members_view es)
    → get_member k (members_view (cond b es (e ∷ rest))) ≡ get_member k (members_view (e ∷ es))
get_member-remove_by true name k e es rest found other later =
    let same : name ≡ string_bytes e.0 = (bytes_eq-Decides name (string_bytes e.0)).0
    (sym (is_eq-slice_cmp name (string_bytes e.0)) ∙ found) in
    sym (member_later k e es (λ h. other (h ∙ sym same)))
get_member-remove_by false name k e es rest found other later =
    ap (λ r. match_ordering (slice_cmp nat_cmp k (string_bytes e.0)) r (Some (view e.1)) r) later

-- the other names have what they had
pub get_member-remove_entry : (name k : List ℕ) (es : List Entry) → (k ≡ name → ⊥)
    → get_member k (members_view (remove_entry (is_at (λ q. slice_cmp nat_cmp name (string_bytes q))) es)) ≡
    get_member k (members_view es)
get_member-remove_entry name k [] other = refl
get_member-remove_entry name k (e ∷ es) other =
    get_member-remove_by _ name k e es _ refl other (get_member-remove_entry name k es other)
