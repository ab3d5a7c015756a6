-- The tests of "includes" and "excludes" say what each element and each pair says.
use Rattle.std.proofs.Common.{◌≡◌, List, [], ◌∷◌, Bool, true, false, cond, ◌&&◌, ◌||◌, Option, Some, None, refl, sym, ap, subst, ◌∙◌}
use Rattle.std.specs.Prelude.{◌↔◌, not}
use Rattle.std.specs.Cmp.{first_so, second_so}
use Rattle.std.specs.List.{list_all}
use Rattle.std.specs.Option.{option_eq}
use Rattle.ovs_data.specs.declared.atom.Atom.{Atom}
use Rattle.ovs_data.specs.declared.datum.pairs.Pair.{Pair}
use Rattle.ovs_data.specs.declared.datum.Datum.{Datum}
use Rattle.ovs_data.specs.declared.datum.Datum.TheVariants.{Set, Map}
use Rattle.ovs_data.specs.Atom.{atom_cmp, atom_eq}
use Rattle.ovs_data.specs.Ascending.{IsAscending}
use Rattle.ovs_data.specs.Conditions.{Includes, Excludes, has_pair}
use Rattle.ovs_data.specs.Datum.{contains, value_at, has_element, value_in}
use Rattle.ovs_data.proofs.Differences.{atom_eq-self, atom_eq-true}
use Rattle.ovs_data.proofs.Writings.{or_right, later}

pub elements_hold : (q : Atom → Bool) (xs : List Atom) → list_all q xs ≡ true → (x : Atom) → contains x xs ≡ true → q x ≡ true
elements_hold q [] all x e = absurd cc
elements_hold q (y ∷ ys) all x e =
    elim (atom_eq x y) as (λ b. atom_eq x y ≡ b → (b || contains x ys) ≡ true → q x ≡ true) [
      | true ↦ λ same f. ap q (atom_eq-true x y same) ∙ first_so (q y) (list_all q ys) all
      | false ↦ λ same f. elements_hold q ys (second_so (q y) (list_all q ys) all) x f
    ] refl e

pub hold_elements : (q : Atom → Bool) (xs : List Atom) → ((x : Atom) → contains x xs ≡ true → q x ≡ true) → list_all q xs ≡ true
hold_elements q [] h = refl
hold_elements q (y ∷ ys) h = rw (h y (rw (atom_eq-self y) refl)) (hold_elements q ys (λ x e. h x (or_right (atom_eq x y) (contains x ys) e)))

pub pairs_hold : (r : Pair → Bool) (ps : List Pair) → list_all r ps ≡ true → (k v : Atom) → value_at k ps ≡ Some v → r (record { key = k; value = v }) ≡ true
pairs_hold r [] all k v e = absurd cc
pairs_hold r (p ∷ ps) all k v e =
    elim (atom_eq k p.key) as (λ b. atom_eq k p.key ≡ b → cond b (Some p.value) (value_at k ps) ≡ Some v → r (record { key = k; value = v }) ≡ true) [
      | true ↦ λ same f.
          let keys : p.key ≡ k = sym (atom_eq-true k p.key same) in
          let values : p.value ≡ v = cc in
          subst (λ q. r q ≡ true) (λ i. record { key = keys i; value = values i }) (first_so (r p) (list_all r ps) all)
      | false ↦ λ same f. pairs_hold r ps (second_so (r p) (list_all r ps) all) k v f
    ] refl e

pub hold_pairs : (r : Pair → Bool) (ps : List Pair) → IsAscending atom_cmp (λ (p : Pair). p.key) ps → ((k v : Atom) → value_at k ps ≡ Some v → r (record { key = k; value = v }) ≡ true) → list_all r ps ≡ true
hold_pairs r [] a h = refl
hold_pairs r (p ∷ ps) a h = rw (h p.key p.value (rw (atom_eq-self p.key) refl)) (hold_pairs r ps a.1 (λ k v e. h k v (later p ps a.0 k v e)))

-- whether an optional atom is this one
is_atom : (o : Option Atom) (v : Atom) → (option_eq atom_eq o (Some v) ≡ true) ↔ (o ≡ Some v)
is_atom None v = (λ e. absurd cc, λ e. absurd cc)
is_atom (Some w) v = (λ e. ap Some (atom_eq-true w v e), λ e. (let same : w ≡ v = cc in rw same (atom_eq-self v)))

not_true : (b : Bool) → (not b ≡ true) ↔ (b ≡ false)
not_true true = (λ e. absurd cc, λ e. absurd cc)
not_true false = (λ e. refl, λ e. refl)

isnt_true : (b : Bool) → (b ≡ true → ⊥) → not b ≡ true
isnt_true true h = absurd (h refl)
isnt_true false h = refl

pub includes_set : (d : Datum) (xs : List Atom) → (list_all (λ x. has_element x d) xs ≡ true) ↔ Includes d (Set xs)
includes_set d xs = (λ all. (elements_hold (λ x. has_element x d) xs all, λ k v e. absurd cc), λ h. hold_elements (λ x. has_element x d) xs h.0)

pub includes_map : (d : Datum) (ps : List Pair) → IsAscending atom_cmp (λ (p : Pair). p.key) ps → (list_all (has_pair d) ps ≡ true) ↔ Includes d (Map ps)
includes_map d ps a = (
  (λ all. (λ x e. absurd cc, λ k v e. (is_atom (value_in k d) v).0 (pairs_hold (has_pair d) ps all k v e))),
  λ h. hold_pairs (has_pair d) ps a (λ k v e. (is_atom (value_in k d) v).1 (h.1 k v e)),
)

pub excludes_set : (d : Datum) (xs : List Atom) → (list_all (λ x. not (has_element x d)) xs ≡ true) ↔ Excludes d (Set xs)
excludes_set d xs = (
  (λ all. (λ x e. (not_true (has_element x d)).0 (elements_hold (λ x. not (has_element x d)) xs all x e), λ k v e. absurd cc)),
  λ h. hold_elements (λ x. not (has_element x d)) xs (λ x e. (not_true (has_element x d)).1 (h.0 x e)),
)

pub excludes_map : (d : Datum) (ps : List Pair) → IsAscending atom_cmp (λ (p : Pair). p.key) ps → (list_all (λ p. not (has_pair d p)) ps ≡ true) ↔ Excludes d (Map ps)
excludes_map d ps a = (
  (λ all. (
    λ x e. absurd cc,
    λ k v e f.
        let absent = (not_true (has_pair d (record { key = k; value = v }))).0 (pairs_hold (λ p. not (has_pair d p)) ps all k v e) in
        let present = (is_atom (value_in k d) v).1 f in cc,
  )),
  λ h. hold_pairs (λ p. not (has_pair d p)) ps a (λ k v e. isnt_true (has_pair d (record { key = k; value = v })) (λ present. h.1 k v e ((is_atom (value_in k d) v).0 present))),
)

-- where there are no pairs, the elements decide
pub elements_decide : (b : Bool) → b ≡ (b && true)
elements_decide true = refl
elements_decide false = refl
