-- What is written holds no float, and stands for what was written.
use Rattle.std.proofs.Common.{◌≡◌, inl, inr, ℕ, ◌+◌, ◌<◌, pos, negsuc, List, [], ◌∷◌, ◌++◌, length, take, map, get_or, Bool, true, false, cond, ◌||◌, Option, Some, None, Result, Ok, Err, refl, sym, ap, subst, ◌∙◌}
use Rattle.std.specs.Prelude.{IfOk, IsSome}
use Rattle.std.proofs.lemmas.List.{take_more, map-append}
use Rattle.serde_json.specs.Data.{Data, Items, no_items, item}
use Rattle.serde_json.specs.View.{view, items_view}
use Rattle.serde_json.specs.declared.value.Value.{Value}
use Rattle.serde_json.specs.Written.{has_float, items_have_float}
use Rattle.ovs_data.specs.declared.atom.Atom.{Atom}
use Rattle.ovs_data.specs.declared.atom.Atom.TheVariants.{Integer, Boolean, String, Uuid}
use Rattle.ovs_data.specs.declared.atom.AtomKind.{AtomKind}
use Rattle.ovs_data.specs.declared.column.Column.{Column}
use Rattle.ovs_data.specs.declared.datum.pairs.Pair.{Pair}
use Rattle.ovs_data.specs.declared.datum.Datum.{Datum}
use Rattle.ovs_data.specs.declared.datum.Datum.TheVariants.{Set, Map}
use Rattle.ovs_data.specs.Atom.{atom_cmp, atom_total, atom_eq, kind_of}
use Rattle.ovs_data.specs.Ascending.{IsAscending, IsBefore}
use Rattle.ovs_data.specs.Datum.{contains, value_at, IsDatumOf}
use Rattle.ovs_data.specs.Spelling.{SpellsValue, SpellsBoth, SpellsAtom, SpellsPair, IsWritten, Spells}
use Rattle.ovs_json.specs.Items.{SpellsEach}
use Rattle.ovs_data.specs.Writing.{atom_json, atoms_json, pairs_json, datum_json}
use Rattle.ovs_data.proofs.Ascends.{entry_at-before}
use Rattle.ovs_data.proofs.Differences.{value_at-at, pair_value, atom_eq-true, atom_eq-self}

pub has_float-atom : (x : Atom) → has_float (atom_json x) ≡ false
has_float-atom (Integer (pos n)) = refl
has_float-atom (Integer (negsuc n)) = refl
has_float-atom (Boolean b) = refl
has_float-atom (String s) = refl
has_float-atom (Uuid id) = refl

has_float-atoms : (xs : List Atom) → items_have_float (atoms_json xs) ≡ false
has_float-atoms [] = refl
has_float-atoms (x ∷ xs) = rw (has_float-atom x) (has_float-atoms xs)

has_float-pairs : (ps : List Pair) → items_have_float (pairs_json ps) ≡ false
has_float-pairs [] = refl
has_float-pairs (p ∷ ps) = rw (has_float-atom p.key, has_float-atom p.value) (has_float-pairs ps)

pub has_float-datum : (d : Datum) → has_float (datum_json d) ≡ false
has_float-datum (Set []) = refl
has_float-datum (Set (x ∷ [])) = has_float-atom x
has_float-datum (Set (x ∷ y ∷ ys)) = rw (has_float-atoms (x ∷ y ∷ ys)) refl
has_float-datum (Map ps) = rw (has_float-pairs ps) refl

pub no_float : {F : Type 0} (d : Data) (r : Result Value F) → has_float d ≡ false → IfOk r (λ v. view v ≡ d) → IfOk r (λ v. has_float (view v) ≡ false)
no_float d (Ok v) h e = ap has_float e ∙ h
no_float d (Err f) h e = tt

-- ---- what is written stands for what was written

-- one more item stands for one more
pub spelled_more : {X : Type 0} (S : Data → X → Type 0) (vs : List Value) (xs : List X) (v : Value) (x : X)
    → SpellsEach S (items_view vs) xs → S (view v) x → SpellsEach S (items_view (vs ++ v ∷ [])) (xs ++ x ∷ [])
spelled_more S [] [] v x h one = (one, tt)
spelled_more S [] (y ∷ ys) v x h one = absurd h
spelled_more S (u ∷ us) [] v x h one = absurd h
spelled_more S (u ∷ us) (y ∷ ys) v x h one = (h.0, spelled_more S us ys v x h.1 one)

-- one turn of the loops that write a list
module _ {X : Type 0} (json : X → Data) (S : Data → X → Type 0) where
  pub one_more : (vs : List Value) (xs : List X) (i : ℕ) (v : Value) (x : X) → i < length xs → x ≡ get_or xs i x → view v ≡ json x → S (view v) x
      → map view vs ≡ map json (take i xs) → SpellsEach S (items_view vs) (take i xs)
      → (map view (vs ++ v ∷ []) ≡ map json (take (i + 1) xs)) × SpellsEach S (items_view (vs ++ v ∷ [])) (take (i + 1) xs)
  one_more vs xs i v x within is value spelled written before =
      let front : take (i + 1) xs ≡ take i xs ++ x ∷ [] = take_more xs i x within ∙ ap (λ (y : X). take i xs ++ y ∷ []) (sym is) in (
        map-append view vs (v ∷ [])
            ∙ ap (λ (ds : List Data). ds ++ view v ∷ []) written
            ∙ ap (λ (d : Data). map json (take i xs) ++ d ∷ []) value
            ∙ sym (map-append json (take i xs) (x ∷ []))
            ∙ ap (map json) (sym front),
        subst (SpellsEach S (items_view (vs ++ v ∷ []))) (sym front) (spelled_more S vs (take i xs) v x before spelled),
      )

pub or_right : (a b : Bool) → b ≡ true → (a || b) ≡ true
or_right true b e = refl
or_right false b e = e

each_of_kind : (kind : AtomKind) (ds : Items) (xs : List Atom) → SpellsEach SpellsValue ds xs → ((q : Atom) → contains q xs ≡ true → kind_of q ≡ kind)
    → SpellsEach (SpellsAtom kind) ds xs
each_of_kind kind no_items [] h k = tt
each_of_kind kind no_items (x ∷ xs) h k = absurd h
each_of_kind kind (item d ds) [] h k = absurd h
each_of_kind kind (item d ds) (x ∷ xs) h k =
    ((k x (rw (atom_eq-self x) refl), h.0), each_of_kind kind ds xs h.1 (λ q e. k q (or_right (atom_eq q x) (contains q xs) e)))

-- a key of the later pairs isn't the first one's
pub later : (p : Pair) (ps : List Pair) → IsBefore atom_cmp (λ (p : Pair). p.key) p.key ps → (k v : Atom) → value_at k ps ≡ Some v → value_at k (p ∷ ps) ≡ Some v
later p ps before k v e =
    elim (atom_eq k p.key) as (λ b. atom_eq k p.key ≡ b → cond b (Some p.value) (value_at k ps) ≡ Some v) [
      | true ↦ λ same. absurd (
          let gone : value_at p.key ps ≡ None = value_at-at p.key ps ∙ ap pair_value (entry_at-before atom_cmp atom_total (λ (p : Pair). p.key) p.key ps before) in
          let clash = sym gone ∙ ap (λ q. value_at q ps) (sym (atom_eq-true k p.key same)) ∙ e in cc)
      | false ↦ λ same. e
    ] refl

abbrev PairKinds : AtomKind → AtomKind → Atom → Atom → Type 0
PairKinds key value k v = (kind_of k ≡ key) × (kind_of v ≡ value)

pairs_of_kinds : (key value : AtomKind) (ds : Items) (ps : List Pair) → SpellsEach SpellsBoth ds ps → IsAscending atom_cmp (λ (p : Pair). p.key) ps
    → ((k v : Atom) → value_at k ps ≡ Some v → PairKinds key value k v) → SpellsEach (SpellsPair SpellsAtom key value) ds ps
pairs_of_kinds key value no_items [] h a kinds = tt
pairs_of_kinds key value no_items (p ∷ ps) h a kinds = absurd h
pairs_of_kinds key value (item d ds) [] h a kinds = absurd h
pairs_of_kinds key value (item d ds) (p ∷ ps) ((k, v, is, spelled_key, spelled_value), rest) a kinds =
    let own : PairKinds key value p.key p.value = kinds p.key p.value (rw (atom_eq-self p.key) refl) in
    ((k, v, is, (own.0, spelled_key), (own.1, spelled_value)), pairs_of_kinds key value ds ps rest a.1 (λ q w e. kinds q w (later p ps a.0 q w e)))

value_kind : (o : Option AtomKind) → IsSome o → (value : AtomKind) × (o ≡ Some value)
value_kind None h = absurd cc
value_kind (Some value) h = (value, refl)

some_kind : (a b : AtomKind) → Some a ≡ Some b → a ≡ b
some_kind a b e = cc

-- what is written stands for the datum in each of its columns
pub spelled_as_written : (d : Data) (x : Datum) → IsWritten d x → (c : Column) → IsDatumOf c x → Spells c d x
spelled_as_written d (Set []) written c of =
    ([], of.shape, inl (no_items, written, tt), ((λ q. refl), refl), of.order, of.count)
spelled_as_written d (Set (x ∷ [])) written c of =
    (x ∷ [], of.shape, inr (x, refl, (of.kinds x (rw (atom_eq-self x) refl), written)), ((λ q. refl), refl), of.order, of.count)
spelled_as_written d (Set (x ∷ y ∷ ys)) (ds, is, each) c of =
    (x ∷ y ∷ ys, of.shape, inl (ds, is, each_of_kind c.key ds (x ∷ y ∷ ys) each of.kinds), ((λ q. refl), refl), of.order, of.count)
spelled_as_written d (Map ps) (ds, is, each) c of =
    let kind = value_kind c.value of.shape in
    let kinds : (k v : Atom) → value_at k ps ≡ Some v → PairKinds c.key kind.0 k v = λ k v e.
    let both = of.kinds k v e in (both.0, some_kind (kind_of v) kind.0 (both.1 ∙ kind.1)) in
    (kind.0, ps, kind.1, (ds, is, pairs_of_kinds c.key kind.0 ds ps each of.order kinds), ((λ q. refl), refl), of.order, of.count)

pub spelled_by : {F : Type 0} (x : Datum) (r : Result Value F) → IfOk r (λ v. IsWritten (view v) x)
    → IfOk r (λ v. (c : Column) → IsDatumOf c x → Spells c (view v) x)
spelled_by x (Ok v) written = spelled_as_written (view v) x written
spelled_by x (Err e) written = tt
