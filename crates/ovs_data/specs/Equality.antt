-- Equality of data as a test.
use Rattle.std.specs.Prelude.{◌≡◌, List, Bool, true, false}
use Rattle.std.proofs.Common.{refl, sym, true≢false}
use Rattle.std.specs.Ordering.{on, eq_by_cmp, eq_of_both}
use Rattle.std.specs.Cmp.{IsEquivalence, eq_by_cmp_equiv, on_equiv, and_equiv}
use Rattle.std.specs.Cmp.Lexicographic.{pointwise, lists_equiv}
use Rattle.ovs_data.specs.declared.atom.Atom.{Atom}
use Rattle.ovs_data.specs.declared.datum.pairs.Pair.{Pair}
use Rattle.ovs_data.specs.declared.datum.Datum.{Datum}
use Rattle.ovs_data.specs.declared.datum.Datum.TheVariants.{Set, Map}
use Rattle.ovs_data.specs.Atom.{atom_cmp, atom_total}

abbrev pub atoms_eq : List Atom → List Atom → Bool
atoms_eq = pointwise (eq_by_cmp atom_cmp)

pub atoms_equiv : IsEquivalence atoms_eq
atoms_equiv = lists_equiv (eq_by_cmp_equiv atom_total)

-- equal keys and equal values
abbrev pub pair_eq : Pair → Pair → Bool
pair_eq = eq_of_both (on (λ p. p.key) (eq_by_cmp atom_cmp)) (on (λ p. p.value) (eq_by_cmp atom_cmp))

abbrev pub pairs_eq : List Pair → List Pair → Bool
pairs_eq = pointwise pair_eq

pub pairs_equiv : IsEquivalence pairs_eq
pairs_equiv = lists_equiv (and_equiv (on_equiv (λ p. p.key) (eq_by_cmp_equiv atom_total)) (on_equiv (λ p. p.value) (eq_by_cmp_equiv atom_total)))

-- equal sets, or equal maps
abbrev pub datum_eq : Datum → Datum → Bool
datum_eq (Set xs) (Set ys) = atoms_eq xs ys
datum_eq (Map ps) (Map qs) = pairs_eq ps qs
datum_eq (Set xs) (Map qs) = false
datum_eq (Map ps) (Set ys) = false

datum_eq-refl : (d : Datum) → datum_eq d d ≡ true
datum_eq-refl (Set xs) = atoms_equiv.refl xs
datum_eq-refl (Map ps) = pairs_equiv.refl ps

datum_eq-symm : (d e : Datum) → datum_eq d e ≡ datum_eq e d
datum_eq-symm (Set xs) (Set ys) = atoms_equiv.symm xs ys
datum_eq-symm (Map ps) (Map qs) = pairs_equiv.symm ps qs
datum_eq-symm (Set xs) (Map qs) = refl
datum_eq-symm (Map ps) (Set ys) = refl

datum_eq-congr : (d e f : Datum) → datum_eq d e ≡ true → datum_eq d f ≡ datum_eq e f
datum_eq-congr (Set xs) (Set ys) (Set zs) h = atoms_equiv.congr xs ys zs h
datum_eq-congr (Set xs) (Set ys) (Map rs) h = refl
datum_eq-congr (Map ps) (Map qs) (Map rs) h = pairs_equiv.congr ps qs rs h
datum_eq-congr (Map ps) (Map qs) (Set zs) h = refl
datum_eq-congr (Set xs) (Map qs) f h = absurd (true≢false (sym h))
datum_eq-congr (Map ps) (Set ys) f h = absurd (true≢false (sym h))

pub datum_equiv : IsEquivalence datum_eq
datum_equiv = record { refl = datum_eq-refl; symm = datum_eq-symm; congr = datum_eq-congr }
