-- The tests of equality decide it.
use Rattle.std.proofs.Common.{◌≡◌, List, true, refl, ap, subst}
use Rattle.std.specs.Prelude.{◌↔◌}
use Rattle.std.specs.Cmp.{first_so, second_so}
use Rattle.std.specs.Cmp.Lexicographic.{pointwise_decides}
use Rattle.ovs_data.specs.declared.atom.Atom.{Atom}
use Rattle.ovs_data.specs.declared.datum.pairs.Pair.{Pair}
use Rattle.ovs_data.specs.declared.datum.Datum.{Datum}
use Rattle.ovs_data.specs.declared.datum.Datum.TheVariants.{Set, Map}
use Rattle.ovs_data.specs.Atom.{atom_eq}
use Rattle.ovs_data.specs.Equality.{pair_eq, datum_eq, datum_equiv}
use Rattle.ovs_data.proofs.Differences.{atom_eq-true, atom_eq-self}

pub atom_decides : (x y : Atom) → (atom_eq x y ≡ true) ↔ (x ≡ y)
atom_decides x y = (atom_eq-true x y, λ e. subst (λ z. atom_eq x z ≡ true) e (atom_eq-self x))

pub pair_decides : (p q : Pair) → (pair_eq p q ≡ true) ↔ (p ≡ q)
pair_decides p q =
    let same : pair_eq p q ≡ true → p ≡ q = λ e.
    let both : ◌≡◌ {A = Pair} (record { key = p.key; value = p.value }) (record { key = q.key; value = q.value }) = rw (atom_eq-true p.key q.key (first_so (atom_eq p.key q.key) (atom_eq p.value q.value) e), atom_eq-true p.value q.value (second_so (atom_eq p.key q.key) (atom_eq p.value q.value) e)) refl in
    both in
    let itself : pair_eq p p ≡ true = rw (atom_eq-self p.key) (atom_eq-self p.value) in
    (same, λ e. subst (λ z. pair_eq p z ≡ true) e itself)

set_is : (xs ys : List Atom) → ◌≡◌ {A = Datum} (Set xs) (Set ys) → xs ≡ ys
set_is xs ys e = cc

map_is : (ps qs : List Pair) → ◌≡◌ {A = Datum} (Map ps) (Map qs) → ps ≡ qs
map_is ps qs e = cc

same_datum : (d e : Datum) → datum_eq d e ≡ true → d ≡ e
same_datum (Set xs) (Set ys) h = ap Set ((pointwise_decides atom_decides xs ys).0 h)
same_datum (Map ps) (Map qs) h = ap Map ((pointwise_decides pair_decides ps qs).0 h)
same_datum (Set xs) (Map qs) h = absurd cc
same_datum (Map ps) (Set ys) h = absurd cc

pub datum_decides : (d e : Datum) → (datum_eq d e ≡ true) ↔ (d ≡ e)
datum_decides d e = (same_datum d e, λ h. subst (λ x. datum_eq d x ≡ true) h (datum_equiv.refl d))
