-- What is read is spelled so, and what is spelled so is read.
use Rattle.std.proofs.Common.{◌≡◌, inl, inr, ℕ, ℤ, List, [], ◌∷◌, length, Bool, true, false, cond, ◌||◌, Option, Some, None, Result, Ok, Err, refl, sym, ap, subst, ◌∙◌, eqb}
use Rattle.std.specs.Prelude.{option_map, option_and_then, codes, is_some}
use Rattle.std.proofs.lemmas.Bool.{eq-eqb, eqb-true}
use Rattle.serde_json.specs.Data.{Num, Data, string, Items, no_items, item}
use Rattle.serde_json.specs.Find.{as_i64, as_str, as_number, as_bool}
use Rattle.ovs_data.specs.declared.atom.Atom.{Atom}
use Rattle.ovs_data.specs.declared.atom.Atom.TheVariants.{Integer, Boolean, String, Uuid}
use Rattle.ovs_data.specs.declared.atom.AtomKind.{AtomKind}
use Rattle.ovs_data.specs.declared.atom.AtomKind.TheVariants as kinds
use Rattle.ovs_data.specs.declared.column.Column.{Column}
use Rattle.ovs_data.specs.declared.datum.pairs.Pair.{Pair}
use Rattle.ovs_data.specs.declared.datum.Datum.{Datum}
use Rattle.ovs_data.specs.declared.datum.Datum.TheVariants.{Set, Map}
use Rattle.ovs_data.specs.declared.error.DatumError.{DatumError}
use Rattle.ovs_data.specs.declared.error.DatumError.TheVariants as faults
use Rattle.ovs_data.specs.Atom.{atom_cmp, atom_eq, atom_total, kind_of}
use Rattle.ovs_data.specs.Pairs.{key_cmp}
use Rattle.ovs_data.specs.Column.{may_count}
use Rattle.ovs_data.specs.Ascending.{distinct, in_order}
use Rattle.ovs_data.specs.Datum.{contains, value_at, IsOrdered, IsDatumOf}
use Rattle.ovs_data.specs.Id.{read_id}
use Rattle.ovs_json.specs.Putting.{two}
use Rattle.std.specs.FinMap.{get}
use Rattle.std.specs.Option.{ok_or}
use Rattle.ovs_json.specs.Results.{◌>>=◌}
use Rattle.ovs_json.specs.Parts.{begins_with, two_items, under, list_under}
use Rattle.ovs_json.specs.Items.{read_items}
use Rattle.ovs_data.specs.Reading.{read_integer, read_uuid, read_atom, read_one, read_elements, counted, read_set, are_pairs, map_items, read_pair, read_pairs, read_map, read_shaped, read_column, read_datum}
use Rattle.ovs_data.specs.NamedReading.{NamedIds, read_name, id_or_named, read_named_atom, SpellsName, SpellsNamedAtom}
use Rattle.ovs_data.specs.Names.{is_id}
use Rattle.ovs_data.specs.Spelling.{SpellsValue, SpellsAtom, SpellsPair, SpellsElements, SpellsPairs, IsSetOf, IsMapOf, SpellsDatum, Spells}
use Rattle.ovs_json.specs.Items.{SpellsEach}
use Rattle.ovs_json.proofs.Steps.{read_as, same_value, items_found, items_only, ok_or_found, bind_found, number_of, boolean_of, string_of}
use Rattle.ovs_json.proofs.Found.{some_is, then_found, option_map_found, tested, two_items-is, under-is, list_under-is}
use Rattle.ovs_data.proofs.InOrder.{at-in_order, Ascends-in_order}
use Rattle.ovs_data.proofs.Differences.{contains-at, value_at-at, same_sets, same_maps, pair_value, atom_eq-true}

-- ---- atoms

read_integer-is : (o : Option Num) (x : Atom) → read_integer o ≡ Ok x → (n : Num) × (z : ℤ) × (o ≡ Some n) × (as_i64 n ≡ Some z) × (Integer z ≡ x)
read_integer-is None x e = absurd cc
read_integer-is (Some n) x e =
    let h = option_map_found (as_i64 n) Integer x (ok_or_found (option_map Integer (as_i64 n)) faults.NotInteger x e) in
    (n, h.0, refl, h.1, h.2)

pub atom_found : (kind : AtomKind) (d : Data) (x : Atom) → read_atom kind d ≡ Ok x → SpellsAtom kind d x
atom_found kinds.Integer d x e =
    let h = read_integer-is (as_number d) x e in
    subst (SpellsAtom kinds.Integer d) h.4 (refl, (h.0, number_of d h.0 h.2, h.3))
atom_found kinds.Boolean d x e =
    let h = option_map_found (as_bool d) Boolean x (ok_or_found (option_map Boolean (as_bool d)) faults.WrongKind x e) in
    subst (SpellsAtom kinds.Boolean d) h.2 (refl, boolean_of d h.0 h.1)
atom_found kinds.String d x e =
    let h = option_map_found (as_str d) String x (ok_or_found (option_map String (as_str d)) faults.WrongKind x e) in
    subst (SpellsAtom kinds.String d) h.2 (refl, string_of d h.0 h.1)
atom_found kinds.Uuid d x e =
    let h = option_map_found (read_uuid d) Uuid x (ok_or_found (option_map Uuid (read_uuid d)) faults.WrongKind x e) in
    let f = then_found (option_and_then as_str (under (codes "uuid") d)) read_id h.0 h.1 in
    let g = then_found (under (codes "uuid") d) as_str f.0 f.1 in
    subst (SpellsAtom kinds.Uuid d) h.2 (refl, (f.0, under-is (codes "uuid") d g.0 g.1 ∙ ap (two (string (codes "uuid"))) (string_of g.0 f.0 g.2), f.2))

pub atom_only : (kind : AtomKind) (d : Data) (x : Atom) → SpellsAtom kind d x → read_atom kind d ≡ Ok x
atom_only kind d (Integer z) (is_kind, (n, is, value)) = rw (← is_kind, is, value) refl
atom_only kind d (Boolean b) (is_kind, is) = rw (← is_kind, is) refl
atom_only kind d (String s) (is_kind, is) = rw (← is_kind, is) refl
atom_only kind d (Uuid id) (is_kind, (text, is, value)) = rw (← is_kind, is, value) refl

-- an atom is no list under "set" or "map"
plain_set : (d : Data) (x : Atom) → SpellsValue d x → begins_with (codes "set") d ≡ false
plain_set d (Integer z) (n, is, value) = rw is refl
plain_set d (Boolean b) is = rw is refl
plain_set d (String s) is = rw is refl
plain_set d (Uuid id) (text, is, value) = rw is refl

plain_map : (d : Data) (x : Atom) → SpellsValue d x → begins_with (codes "map") d ≡ false
plain_map d (Integer z) (n, is, value) = rw is refl
plain_map d (Boolean b) is = rw is refl
plain_map d (String s) is = rw is refl
plain_map d (Uuid id) (text, is, value) = rw is refl

-- ---- sets and maps

distinct-is : {E : Type 0} (all xs ys : List E) → cond (eqb (length all) (length xs)) (Some all) None ≡ Some ys → (all ≡ ys) × (length all ≡ length xs)
distinct-is all xs ys e =
    let h = tested (eqb (length all) (length xs)) all ys e in
    (h.1, eqb-true (length all) (length xs) h.0)

set_of-is : (xs ys : List Atom) → distinct atom_cmp xs ≡ Some ys → IsSetOf xs ys × IsOrdered (Set ys)
set_of-is xs ys e =
    let h = distinct-is (in_order atom_cmp xs) xs ys e in
    let same : (q : Atom) → contains q (in_order atom_cmp xs) ≡ contains q xs = λ q.
    contains-at q (in_order atom_cmp xs) ∙ ap is_some (at-in_order atom_cmp atom_total (λ (x : Atom). x) q xs) ∙ sym (contains-at q xs) in
    subst (λ zs. IsSetOf xs zs × IsOrdered (Set zs)) h.0 ((same, h.1), Ascends-in_order atom_cmp atom_total (λ (x : Atom). x) xs)

set_of-only : (xs ys : List Atom) → IsSetOf xs ys → IsOrdered (Set ys) → distinct atom_cmp xs ≡ Some ys
set_of-only xs ys h a =
    let same : in_order atom_cmp xs ≡ ys = same_sets (in_order atom_cmp xs) ys (Ascends-in_order atom_cmp atom_total (λ (x : Atom). x) xs) a (λ q.
    contains-at q (in_order atom_cmp xs) ∙ ap is_some (at-in_order atom_cmp atom_total (λ (x : Atom). x) q xs) ∙ sym (contains-at q xs) ∙ sym (h.0 q)) in
    let all : eqb (length (in_order atom_cmp xs)) (length xs) ≡ true = eq-eqb _ _ (ap length same ∙ h.1) in
    rw (all, same) refl

counted-is : (c : Column) (n : ℕ) (x y : Datum) → counted c n x ≡ Ok y → (may_count c n ≡ true) × (x ≡ y)
counted-is c n x y e =
    elim (may_count c n) as (λ b. cond b (read_as x) (Err faults.WrongCount) ≡ Ok y → (b ≡ true) × (x ≡ y)) [
      | true ↦ λ f. (refl, sym (same_value x y f))
      | false ↦ λ f. absurd cc
    ] e

map_items-is : (o : Option Items) (ds : Items) → map_items o ≡ Some ds → o ≡ Some ds
map_items-is None ds e = absurd cc
map_items-is (Some es) ds e = ap Some (tested (are_pairs es) es ds e).1

map_of-is : (xs ys : List Pair) → distinct key_cmp xs ≡ Some ys → IsMapOf xs ys × IsOrdered (Map ys)
map_of-is xs ys e =
    let h = distinct-is (in_order key_cmp xs) xs ys e in
    let same : (k : Atom) → value_at k (in_order key_cmp xs) ≡ value_at k xs = λ k.
    value_at-at k (in_order key_cmp xs) ∙ ap pair_value (at-in_order atom_cmp atom_total (λ (p : Pair). p.key) k xs) ∙ sym (value_at-at k xs) in
    subst (λ zs. IsMapOf xs zs × IsOrdered (Map zs)) h.0 ((same, h.1), Ascends-in_order atom_cmp atom_total (λ (p : Pair). p.key) xs)

map_of-only : (xs ys : List Pair) → IsMapOf xs ys → IsOrdered (Map ys) → distinct key_cmp xs ≡ Some ys
map_of-only xs ys h a =
    let same : in_order key_cmp xs ≡ ys = same_maps (in_order key_cmp xs) ys (Ascends-in_order atom_cmp atom_total (λ (p : Pair). p.key) xs) a (λ k.
    value_at-at k (in_order key_cmp xs) ∙ ap pair_value (at-in_order atom_cmp atom_total (λ (p : Pair). p.key) k xs) ∙ sym (value_at-at k xs) ∙ sym (h.0 k)) in
    let all : eqb (length (in_order key_cmp xs)) (length xs) ≡ true = eq-eqb _ _ (ap length same ∙ h.1) in
    rw (all, same) refl

either_of : (a b : Bool) → (a || b) ≡ true → (P : Type 0) → (a ≡ true → P) → (b ≡ true → P) → P
either_of true b e P f g = f refl
either_of false b e P f g = g e

-- what is known of a way to read atoms, and of what spells them
pub record ReadsAtoms (read : AtomKind → Data → Result Atom DatumError) (Spelled : AtomKind → Data → Atom → Type 0) : Type 0 where
  pub found : (kind : AtomKind) (d : Data) (x : Atom) → read kind d ≡ Ok x → Spelled kind d x
  pub only : (kind : AtomKind) (d : Data) (x : Atom) → Spelled kind d x → read kind d ≡ Ok x
  pub kind : (kind : AtomKind) (d : Data) (x : Atom) → Spelled kind d x → kind_of x ≡ kind
  pub no_set : (kind : AtomKind) (d : Data) (x : Atom) → Spelled kind d x → begins_with (codes "set") d ≡ false
  pub no_map : (kind : AtomKind) (d : Data) (x : Atom) → Spelled kind d x → begins_with (codes "map") d ≡ false

abbrev PairKinds : AtomKind → AtomKind → Atom → Atom → Type 0
PairKinds key value k v = (kind_of k ≡ key) × (kind_of v ≡ value)

module _ (read : AtomKind → Data → Result Atom DatumError) (Spelled : AtomKind → Data → Atom → Type 0) (laws : ReadsAtoms read Spelled) where
  pub elements_found : (kind : AtomKind) (d : Data) (xs : List Atom) → read_elements read kind d ≡ Ok xs → SpellsElements Spelled kind d xs
  elements_found kind d xs e =
      elim (begins_with (codes "set") d) as (λ b. cond b (ok_or (list_under (codes "set") d) faults.WrongShape >>= read_items (read kind)) (cond (begins_with (codes "map") d) (Err faults.WrongShape) (read_one read kind d)) ≡ Ok xs → SpellsElements Spelled kind d xs) [
        | true ↦ λ f.
            let h = bind_found (ok_or (list_under (codes "set") d) faults.WrongShape) (read_items (read kind)) xs f in
            let is = list_under-is (codes "set") d h.0 (ok_or_found (list_under (codes "set") d) faults.WrongShape h.0 h.1) in
            inl (h.0, is, items_found (read kind) (Spelled kind) (laws.found kind) h.0 xs h.2)
        | false ↦ λ f. elim (begins_with (codes "map") d) as (λ b. cond b (Err faults.WrongShape) (read_one read kind d) ≡ Ok xs → SpellsElements Spelled kind d xs) [
          | true ↦ λ g. absurd cc
          | false ↦ λ g.
              let h = bind_found (read kind d) (λ x. read_as (x ∷ [])) xs g in
              inr (h.0, same_value (h.0 ∷ []) xs h.2, laws.found kind d h.0 h.1)
        ] f
      ] e

  pub elements_only : (kind : AtomKind) (d : Data) (xs : List Atom) → SpellsElements Spelled kind d xs → read_elements read kind d ≡ Ok xs
  elements_only kind d xs (inl (ds, is, each)) = rw is (items_only (read kind) (Spelled kind) (laws.only kind) ds xs each)
  elements_only kind d xs (inr (x, is, spelled)) = rw (laws.no_set kind d x spelled, laws.no_map kind d x spelled, laws.only kind d x spelled, is) refl

  set_found : (c : Column) (d : Data) (x : Datum) → c.value ≡ None → read_set read c d ≡ Ok x → SpellsDatum Spelled c d x
  set_found c d x shape e =
      let f = bind_found (read_elements read c.key d) (λ xs. ok_or (distinct atom_cmp xs) faults.Duplicate >>= λ ys. counted c (length ys) (Set ys)) x e in
      let g = bind_found (ok_or (distinct atom_cmp f.0) faults.Duplicate) (λ ys. counted c (length ys) (Set ys)) x f.2 in
      let h = counted-is c (length g.0) (Set g.0) x g.2 in
      let set = set_of-is f.0 g.0 (ok_or_found (distinct atom_cmp f.0) faults.Duplicate g.0 g.1) in
      subst (SpellsDatum Spelled c d) h.1 (f.0, shape, elements_found c.key d f.0 f.1, set.0, set.1, h.0)

  pair_found : (key value : AtomKind) (d : Data) (p : Pair) → read_pair read key value d ≡ Ok p → SpellsPair Spelled key value d p
  pair_found key value d p e =
      let f = bind_found (ok_or (two_items d) faults.WrongShape) (λ both. read key both.0 >>= λ k. read value both.1 >>= λ v. read_as (record { key = k; value = v })) p e in
      let g = bind_found (read key f.0.0) (λ k. read value f.0.1 >>= λ v. read_as (record { key = k; value = v })) p f.2 in
      let h = bind_found (read value f.0.1) (λ v. read_as (record { key = g.0; value = v })) p g.2 in
      subst (SpellsPair Spelled key value d) (sym (same_value (record { key = g.0; value = h.0 }) p h.2))
      (f.0.0, f.0.1, two_items-is d f.0 (ok_or_found (two_items d) faults.WrongShape f.0 f.1), laws.found key f.0.0 g.0 g.1, laws.found value f.0.1 h.0 h.1)

  pair_only : (key value : AtomKind) (d : Data) (p : Pair) → SpellsPair Spelled key value d p → read_pair read key value d ≡ Ok p
  pair_only key value d p (k, v, is, spelled_key, spelled_value) = rw (is, laws.only key k p.key spelled_key, laws.only value v p.value spelled_value) refl

  are_pairs-spelled : (key value : AtomKind) (ds : Items) (ps : List Pair) → SpellsEach (SpellsPair Spelled key value) ds ps → are_pairs ds ≡ true
  are_pairs-spelled key value no_items ps h = refl
  are_pairs-spelled key value (item d ds) [] h = absurd h
  are_pairs-spelled key value (item d ds) (p ∷ ps) ((k, v, is, spelled_key, spelled_value), rest) = rw is (are_pairs-spelled key value ds ps rest)

  pub pairs_found : (key value : AtomKind) (d : Data) (ps : List Pair) → read_pairs read key value d ≡ Ok ps → SpellsPairs Spelled key value d ps
  pairs_found key value d ps e =
      let h = bind_found (ok_or (map_items (list_under (codes "map") d)) faults.WrongShape) (read_items (read_pair read key value)) ps e in
      let is = map_items-is (list_under (codes "map") d) h.0 (ok_or_found (map_items (list_under (codes "map") d)) faults.WrongShape h.0 h.1) in
      (h.0, list_under-is (codes "map") d h.0 is, items_found (read_pair read key value) (SpellsPair Spelled key value) (pair_found key value) h.0 ps h.2)

  pub pairs_only : (key value : AtomKind) (d : Data) (ps : List Pair) → SpellsPairs Spelled key value d ps → read_pairs read key value d ≡ Ok ps
  pairs_only key value d ps (ds, is, each) =
      rw (is, are_pairs-spelled key value ds ps each) (items_only (read_pair read key value) (SpellsPair Spelled key value) (pair_only key value) ds ps each)

  map_found_in : (c : Column) (value : AtomKind) (d : Data) (x : Datum) → c.value ≡ Some value → read_map read c value d ≡ Ok x → SpellsDatum Spelled c d x
  map_found_in c value d x shape e =
      let f = bind_found (read_pairs read c.key value d) (λ ps. ok_or (distinct key_cmp ps) faults.Duplicate >>= λ qs. counted c (length qs) (Map qs)) x e in
      let g = bind_found (ok_or (distinct key_cmp f.0) faults.Duplicate) (λ qs. counted c (length qs) (Map qs)) x f.2 in
      let h = counted-is c (length g.0) (Map g.0) x g.2 in
      let map = map_of-is f.0 g.0 (ok_or_found (distinct key_cmp f.0) faults.Duplicate g.0 g.1) in
      subst (SpellsDatum Spelled c d) h.1 (value, f.0, shape, pairs_found c.key value d f.0 f.1, map.0, map.1, h.0)

  pub column_found : (c : Column) (d : Data) (x : Datum) → read_column read c d ≡ Ok x → SpellsDatum Spelled c d x
  column_found c d x e =
      elim c.value as (λ v. c.value ≡ v → read_shaped read c v d ≡ Ok x → SpellsDatum Spelled c d x) [
        | None ↦ λ shape f. set_found c d x shape f
        | Some value ↦ λ shape f. map_found_in c value d x shape f
      ] refl e

  pub column_only : (c : Column) (d : Data) (x : Datum) → SpellsDatum Spelled c d x → read_column read c d ≡ Ok x
  column_only c d (Set xs) (all, shape, elements, set, ascending, count) =
      rw (shape, elements_only c.key d all elements, set_of-only all xs set ascending, count) refl
  column_only c d (Map ps) (value, all, shape, pairs, map, ascending, count) =
      rw (shape, pairs_only c.key value d all pairs, map_of-only all ps map ascending, count) refl

  each_kind : (kind : AtomKind) (ds : Items) (xs : List Atom) → SpellsEach (Spelled kind) ds xs → (q : Atom) → contains q xs ≡ true → kind_of q ≡ kind
  each_kind kind no_items [] h q e = absurd cc
  each_kind kind no_items (x ∷ xs) h q e = absurd h
  each_kind kind (item d ds) [] h q e = absurd h
  each_kind kind (item d ds) (x ∷ xs) h q e =
      either_of (atom_eq q x) (contains q xs) e (kind_of q ≡ kind) (λ f. ap kind_of (atom_eq-true q x f) ∙ laws.kind kind d x h.0) (λ f. each_kind kind ds xs h.1 q f)

  elements_kind : (kind : AtomKind) (d : Data) (xs : List Atom) → SpellsElements Spelled kind d xs → (q : Atom) → contains q xs ≡ true → kind_of q ≡ kind
  elements_kind kind d xs (inl (ds, is, each)) q e = each_kind kind ds xs each q e
  elements_kind kind d xs (inr (x, is, spelled)) q e = each_kind kind (item d no_items) (x ∷ []) (spelled, tt) q (ap (contains q) (sym is) ∙ e)

  pairs_kinds : (key value : AtomKind) (ds : Items) (ps : List Pair) → SpellsEach (SpellsPair Spelled key value) ds ps → (k v : Atom) → value_at k ps ≡ Some v → PairKinds key value k v
  pairs_kinds key value no_items [] h k v e = absurd cc
  pairs_kinds key value no_items (p ∷ ps) h k v e = absurd h
  pairs_kinds key value (item d ds) [] h k v e = absurd h
  pairs_kinds key value (item d ds) (p ∷ ps) ((f, g, is, spelled_key, spelled_value), rest) k v e =
      elim (atom_eq k p.key) as (λ b. atom_eq k p.key ≡ b → cond b (Some p.value) (value_at k ps) ≡ Some v → PairKinds key value k v) [
        | true ↦ λ same h. (ap kind_of (atom_eq-true k p.key same) ∙ laws.kind key f p.key spelled_key, ap kind_of (sym (some_is p.value v h)) ∙ laws.kind value g p.value spelled_value)
        | false ↦ λ same h. pairs_kinds key value ds ps rest k v h
      ] refl e

  pub column_kept : (c : Column) (d : Data) (x : Datum) → SpellsDatum Spelled c d x → IsDatumOf c x
  column_kept c d (Set xs) (all, shape, elements, set, ascending, count) = record {
    shape = shape;
    order = ascending;
    kinds = λ q e. elements_kind c.key d all elements q (sym (set.0 q) ∙ e);
    count = count;
  }
  column_kept c d (Map ps) (value, all, shape, (ds, is, each), map, ascending, count) = record {
    shape = rw shape refl;
    order = ascending;
    kinds = λ k v e. let h = pairs_kinds c.key value ds all each k v (sym (map.0 k) ∙ e) in (h.0, ap Some h.1 ∙ sym shape);
    count = count;
  }

-- ---- data as they are written

pub plain_atoms : ReadsAtoms read_atom SpellsAtom
plain_atoms = record {
  found = atom_found;
  only = atom_only;
  kind = λ kind d x spelled. spelled.0;
  no_set = λ kind d x spelled. plain_set d x spelled.1;
  no_map = λ kind d x spelled. plain_map d x spelled.1;
}

pub datum_found : (c : Column) (d : Data) (x : Datum) → read_datum c d ≡ Ok x → Spells c d x
datum_found = column_found read_atom SpellsAtom plain_atoms

pub datum_only : (c : Column) (d : Data) (x : Datum) → Spells c d x → read_datum c d ≡ Ok x
datum_only = column_only read_atom SpellsAtom plain_atoms

pub IsDatumOf-spelled : (c : Column) (d : Data) (x : Datum) → Spells c d x → IsDatumOf c x
IsDatumOf-spelled = column_kept read_atom SpellsAtom plain_atoms

-- ---- data in which names may stand for ids

name_is : (names : NamedIds) (o : Option (List ℕ)) (x : Atom) → read_name names o ≡ Ok x
    → (name : List ℕ) × (id : ℕ) × (o ≡ Some name) × (x ≡ Uuid id) × (is_id name ≡ true) × (get names name ≡ Some id)
name_is names None x e = absurd cc
name_is names (Some name) x e =
    elim (is_id name) as (λ b. is_id name ≡ b → cond b (ok_or (option_map Uuid (get names name)) faults.UnknownName) (Err faults.WrongKind) ≡ Ok x → (n : List ℕ) × (id : ℕ) × (Some name ≡ Some n) × (x ≡ Uuid id) × (is_id n ≡ true) × (get names n ≡ Some id)) [
      | true ↦ λ is f.
          let h = option_map_found (get names name) Uuid x (ok_or_found (option_map Uuid (get names name)) faults.UnknownName x f) in
          (name, h.0, refl, sym h.2, is, h.1)
      | false ↦ λ is f. absurd cc
    ] refl e

name_found : (names : NamedIds) (d : Data) (x : Atom) → read_name names (option_and_then as_str (under (codes "named-uuid") d)) ≡ Ok x → SpellsName names kinds.Uuid d x
name_found names d x e =
    let h = name_is names (option_and_then as_str (under (codes "named-uuid") d)) x e in
    let g = then_found (under (codes "named-uuid") d) as_str h.0 h.2 in
    (h.0, h.1, refl, h.3, under-is (codes "named-uuid") d g.0 g.1 ∙ ap (two (string (codes "named-uuid"))) (string_of g.0 h.0 g.2), h.4, h.5)

named_found : (names : NamedIds) (kind : AtomKind) (d : Data) (x : Atom) → read_named_atom names kind d ≡ Ok x → SpellsNamedAtom names kind d x
named_found names kinds.Integer d x e = inl (atom_found kinds.Integer d x e)
named_found names kinds.Boolean d x e = inl (atom_found kinds.Boolean d x e)
named_found names kinds.String d x e = inl (atom_found kinds.String d x e)
named_found names kinds.Uuid d x e =
    elim (read_uuid d) as (λ o. read_uuid d ≡ o → id_or_named names o d ≡ Ok x → SpellsNamedAtom names kinds.Uuid d x) [
      | Some id ↦ λ is f. inl (atom_found kinds.Uuid d x (rw is f))
      | None ↦ λ is f. inr (name_found names d x f)
    ] refl e

plain_id : (names : NamedIds) (d : Data) (x : Atom) → read_atom kinds.Uuid d ≡ Ok x → read_named_atom names kinds.Uuid d ≡ Ok x
plain_id names d x e =
    let h = option_map_found (read_uuid d) Uuid x (ok_or_found (option_map Uuid (read_uuid d)) faults.WrongKind x e) in
    rw h.1 (ap Ok h.2)

named_only : (names : NamedIds) (kind : AtomKind) (d : Data) (x : Atom) → SpellsNamedAtom names kind d x → read_named_atom names kind d ≡ Ok x
named_only names kinds.Integer d x (inl spelled) = atom_only kinds.Integer d x spelled
named_only names kinds.Boolean d x (inl spelled) = atom_only kinds.Boolean d x spelled
named_only names kinds.String d x (inl spelled) = atom_only kinds.String d x spelled
named_only names kinds.Uuid d x (inl spelled) = plain_id names d x (atom_only kinds.Uuid d x spelled)
named_only names kind d x (inr (name, id, is_uuid, is, spelled, is_name, at)) = rw (is_uuid, spelled, is, is_name, at) refl

named_kind : (names : NamedIds) (kind : AtomKind) (d : Data) (x : Atom) → SpellsNamedAtom names kind d x → kind_of x ≡ kind
named_kind names kind d x (inl spelled) = spelled.0
named_kind names kind d x (inr (name, id, is_uuid, is, spelled, is_name, at)) = rw (is_uuid, is) refl

named_no_set : (names : NamedIds) (kind : AtomKind) (d : Data) (x : Atom) → SpellsNamedAtom names kind d x → begins_with (codes "set") d ≡ false
named_no_set names kind d x (inl spelled) = plain_set d x spelled.1
named_no_set names kind d x (inr (name, id, is_uuid, is, spelled, is_name, at)) = rw spelled refl

named_no_map : (names : NamedIds) (kind : AtomKind) (d : Data) (x : Atom) → SpellsNamedAtom names kind d x → begins_with (codes "map") d ≡ false
named_no_map names kind d x (inl spelled) = plain_map d x spelled.1
named_no_map names kind d x (inr (name, id, is_uuid, is, spelled, is_name, at)) = rw spelled refl

pub named_atoms : (names : NamedIds) → ReadsAtoms (read_named_atom names) (SpellsNamedAtom names)
named_atoms names = record {
  found = named_found names;
  only = named_only names;
  kind = named_kind names;
  no_set = named_no_set names;
  no_map = named_no_map names;
}
