-- Reading tells `Duplicate` exactly where two of the listed elements or keys are equal.
use Rattle.std.proofs.Common.{◌≡◌, ℕ, [], ◌∷◌, length, true, false, cond, Option, Some, None, Result, Ok, Err, inl, inr, refl, sym, ap, subst}
use Rattle.std.specs.Prelude.{◌↔◌, codes, option_map}
use Rattle.std.specs.Option.{ok_or}
use Rattle.std.proofs.lemmas.List.{map-id}
use Rattle.serde_json.specs.Data.{Num, Data, Items, no_items, item}
use Rattle.serde_json.specs.Find.{as_i64, as_str, as_number, as_bool}
use Rattle.ovs_json.specs.Items.{read_items}
use Rattle.ovs_json.specs.Parts.{begins_with, two_items, list_under}
use Rattle.ovs_json.specs.Results.{◌>>=◌}
use Rattle.ovs_json.proofs.Steps.{read_as, ok_or_fault}
use Rattle.ovs_data.specs.declared.atom.Atom.{Atom}
use Rattle.ovs_data.specs.declared.atom.Atom.TheVariants.{Integer, Boolean, String, Uuid}
use Rattle.ovs_data.specs.declared.atom.AtomKind.{AtomKind}
use Rattle.ovs_data.specs.declared.atom.AtomKind.TheVariants as kinds
use Rattle.ovs_data.specs.declared.column.Column.{Column}
use Rattle.ovs_data.specs.declared.datum.pairs.Pair.{Pair}
use Rattle.ovs_data.specs.declared.datum.Datum.{Datum}
use Rattle.ovs_data.specs.declared.datum.Datum.TheVariants.{Set, Map}
use Rattle.ovs_data.specs.declared.error.DatumError.{DatumError}
use Rattle.ovs_data.specs.declared.error.DatumError.TheVariants as faults
use Rattle.ovs_data.specs.Atom.{atom_cmp, atom_total}
use Rattle.ovs_data.specs.Pairs.{key_cmp}
use Rattle.ovs_data.specs.Column.{may_count}
use Rattle.ovs_data.specs.Ascending.{distinct}
use Rattle.ovs_data.specs.Reading.{read_integer, read_uuid, read_atom, read_one, read_elements, counted, read_set, map_items, read_pair, read_pairs, read_map, read_shaped, read_datum}
use Rattle.ovs_data.specs.Spelling.{SpellsAtom, IsRepeated, HasRepeat}
use Rattle.ovs_data.proofs.AtomOrder.{atom_exact}
use Rattle.ovs_data.proofs.Repeats.{none_repeated, repeated_none}
use Rattle.ovs_data.proofs.Spellings.{plain_atoms, elements_found, elements_only, pairs_found, pairs_only}

-- reading doesn't tell `Duplicate`
abbrev TellsNone : {X : Type 0} → Result X DatumError → Type 0
TellsNone r = r ≡ Err faults.Duplicate → ⊥

-- ---- atoms, lists and pairs tell other faults

ok_or_tells : {X : Type 0} (o : Option X) (e : DatumError) → (e ≡ faults.Duplicate → ⊥) → TellsNone (ok_or o e)
ok_or_tells o e other h = other (ok_or_fault o e faults.Duplicate h).1

integer_tells : (o : Option Num) → TellsNone (read_integer o)
integer_tells None h = absurd cc
integer_tells (Some n) h = ok_or_tells (option_map Integer (as_i64 n)) faults.NotInteger (λ e. absurd cc) h

atom_tells : (kind : AtomKind) (d : Data) → TellsNone (read_atom kind d)
atom_tells kinds.Integer d h = integer_tells (as_number d) h
atom_tells kinds.Boolean d h = ok_or_tells (option_map Boolean (as_bool d)) faults.WrongKind (λ e. absurd cc) h
atom_tells kinds.String d h = ok_or_tells (option_map String (as_str d)) faults.WrongKind (λ e. absurd cc) h
atom_tells kinds.Uuid d h = ok_or_tells (option_map Uuid (read_uuid d)) faults.WrongKind (λ e. absurd cc) h

bind_tells : {A B : Type 0} (r : Result A DatumError) (f : A → Result B DatumError) → TellsNone r → ((a : A) → TellsNone (f a)) → TellsNone (r >>= f)
bind_tells (Ok a) f first second h = second a h
bind_tells (Err e) f first second h = first (let same : e ≡ faults.Duplicate = cc in ap Err same)

items_tell : {X : Type 0} (read : Data → Result X DatumError) → ((d : Data) → TellsNone (read d)) → (ds : Items) → TellsNone (read_items read ds)
items_tell read none no_items h = absurd cc
items_tell read none (item d ds) h =
    bind_tells (read d) (λ x. read_items read ds >>= λ ys. read_as (x ∷ ys)) (none d) (λ x.
    bind_tells (read_items read ds) (λ ys. read_as (x ∷ ys)) (items_tell read none ds) (λ ys e. absurd cc)) h

elements_tell : (kind : AtomKind) (d : Data) → TellsNone (read_elements read_atom kind d)
elements_tell kind d h =
    elim (begins_with (codes "set") d) as (λ b. cond b (ok_or (list_under (codes "set") d) faults.WrongShape >>= read_items (read_atom kind)) (cond (begins_with (codes "map") d) (Err faults.WrongShape) (read_one read_atom kind d)) ≡ Err faults.Duplicate → ⊥) [
      | true ↦ bind_tells (ok_or (list_under (codes "set") d) faults.WrongShape) (read_items (read_atom kind)) (ok_or_tells (list_under (codes "set") d) faults.WrongShape (λ e. absurd cc)) (items_tell (read_atom kind) (atom_tells kind))
      | false ↦ λ f. elim (begins_with (codes "map") d) as (λ b. cond b (Err faults.WrongShape) (read_one read_atom kind d) ≡ Err faults.Duplicate → ⊥) [
        | true ↦ λ g. absurd cc
        | false ↦ bind_tells (read_atom kind d) (λ x. read_as (x ∷ [])) (atom_tells kind d) (λ x e. absurd cc)
      ] f
    ] h

pair_tells : (key value : AtomKind) (d : Data) → TellsNone (read_pair read_atom key value d)
pair_tells key value d =
    bind_tells (ok_or (two_items d) faults.WrongShape) (λ both. read_atom key both.0 >>= λ k. read_atom value both.1 >>= λ v. read_as (record { key = k; value = v })) (ok_or_tells (two_items d) faults.WrongShape (λ e. absurd cc)) (λ both.
    bind_tells (read_atom key both.0) (λ k. read_atom value both.1 >>= λ v. read_as (record { key = k; value = v })) (atom_tells key both.0) (λ k.
    bind_tells (read_atom value both.1) (λ v. read_as (record { key = k; value = v })) (atom_tells value both.1) (λ v e. absurd cc)))

pairs_tell : (key value : AtomKind) (d : Data) → TellsNone (read_pairs read_atom key value d)
pairs_tell key value d =
    bind_tells (ok_or (map_items (list_under (codes "map") d)) faults.WrongShape) (read_items (read_pair read_atom key value)) (ok_or_tells (map_items (list_under (codes "map") d)) faults.WrongShape (λ e. absurd cc)) (items_tell (read_pair read_atom key value) (pair_tells key value))

counted_tells : (c : Column) (n : ℕ) (x : Datum) → TellsNone (counted c n x)
counted_tells c n x h = elim (may_count c n) as (λ b. cond b (read_as x) (Err faults.WrongCount) ≡ Err faults.Duplicate → ⊥) [ true ↦ λ f. absurd cc | false ↦ λ f. absurd cc ] h

-- ---- lists of which two tie

-- reading a list, then what is distinct of it, then counting: only the second step tells `Duplicate`
middle : {X Y : Type 0} (r : Result X DatumError) (f : X → Option Y) (g : Y → Result Datum DatumError) → TellsNone r → ((y : Y) → TellsNone (g y))
    → (r >>= λ x. ok_or (f x) faults.Duplicate >>= g) ≡ Err faults.Duplicate → (x : X) × (r ≡ Ok x) × (f x ≡ None)
middle (Err e) f g first last h = absurd (first (let same : e ≡ faults.Duplicate = cc in ap Err same))
middle {Y = Y} (Ok x) f g first last h = (
  x,
  refl,
  elim (f x) as (λ (o : Option Y). (ok_or o faults.Duplicate >>= g) ≡ Err faults.Duplicate → o ≡ None) [
    | None ↦ λ e. refl
    | Some y ↦ λ e. absurd (last y e)
  ] h,
)

set_tells : (c : Column) (d : Data) → c.value ≡ None → read_set read_atom c d ≡ Err faults.Duplicate → HasRepeat c d
set_tells c d shape h =
    let p = middle (read_elements read_atom c.key d) (distinct atom_cmp) (λ ys. counted c (length ys) (Set ys)) (elements_tell c.key d) (λ ys. counted_tells c (length ys) (Set ys)) h in
    inl (p.0, shape, elements_found read_atom SpellsAtom plain_atoms c.key d p.0 p.1, subst IsRepeated (map-id p.0) (none_repeated atom_cmp atom_total atom_exact (λ (x : Atom). x) p.0 p.2))

map_tells : (c : Column) (value : AtomKind) (d : Data) → c.value ≡ Some value → read_map read_atom c value d ≡ Err faults.Duplicate → HasRepeat c d
map_tells c value d shape h =
    let p = middle (read_pairs read_atom c.key value d) (distinct key_cmp) (λ qs. counted c (length qs) (Map qs)) (pairs_tell c.key value d) (λ qs. counted_tells c (length qs) (Map qs)) h in
    inr (value, p.0, shape, pairs_found read_atom SpellsAtom plain_atoms c.key value d p.0 p.1, none_repeated atom_cmp atom_total atom_exact (λ (q : Pair). q.key) p.0 p.2)

repeat_told : (c : Column) (d : Data) → HasRepeat c d → read_datum c d ≡ Err faults.Duplicate
repeat_told c d (inl (xs, shape, elements, twice)) =
    let none : distinct atom_cmp xs ≡ None = repeated_none atom_cmp atom_total atom_exact (λ (x : Atom). x) xs (subst IsRepeated (sym (map-id xs)) twice) in
    rw (shape, elements_only read_atom SpellsAtom plain_atoms c.key d xs elements, none) refl
repeat_told c d (inr (value, ps, shape, pairs, twice)) =
    let none : distinct key_cmp ps ≡ None = repeated_none atom_cmp atom_total atom_exact (λ (q : Pair). q.key) ps twice in
    rw (shape, pairs_only read_atom SpellsAtom plain_atoms c.key value d ps pairs, none) refl

pub duplicate_exactly : (c : Column) (d : Data) → (read_datum c d ≡ Err faults.Duplicate) ↔ HasRepeat c d
duplicate_exactly c d = (
  (λ h. elim c.value as (λ v. c.value ≡ v → read_shaped read_atom c v d ≡ Err faults.Duplicate → HasRepeat c d) [
    | None ↦ λ shape f. set_tells c d shape f
    | Some value ↦ λ shape f. map_tells c value d shape f
  ] refl h),
  repeat_told c d,
)
