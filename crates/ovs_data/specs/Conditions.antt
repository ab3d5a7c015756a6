-- The conditions of sets and maps (RFC 7047 section 5.1).
use Rattle.std.specs.Prelude.{◌≡◌, ◌≢◌, Bool, true, false, not, ◌&&◌, Some}
use Rattle.std.specs.List.{list_all}
use Rattle.std.specs.Option.{option_eq}
use Rattle.ovs_data.specs.declared.atom.Atom.{Atom}
use Rattle.ovs_data.specs.declared.datum.pairs.Pair.{Pair}
use Rattle.ovs_data.specs.declared.datum.Datum.{Datum}
use Rattle.ovs_data.specs.Atom.{atom_eq}
use Rattle.ovs_data.specs.Datum.{has_element, value_in, elements_of, pairs_of}

-- each element and each pair of the other is one of the datum's
abbrev pub Includes : Datum → Datum → Type 0
Includes datum other = ((x : Atom) → has_element x other ≡ true → has_element x datum ≡ true) × ((k v : Atom) → value_in k other ≡ Some v → value_in k datum ≡ Some v)

-- no element and no pair of the other is one of the datum's
abbrev pub Excludes : Datum → Datum → Type 0
Excludes datum other = ((x : Atom) → has_element x other ≡ true → has_element x datum ≡ false) × ((k v : Atom) → value_in k other ≡ Some v → value_in k datum ≢ Some v)

-- whether the datum has the pair
abbrev pub has_pair : Datum → Pair → Bool
has_pair datum p = option_eq atom_eq (value_in p.key datum) (Some p.value)

-- ---- the same by tests

abbrev pub includes : Datum → Datum → Bool
includes datum other = list_all (λ x. has_element x datum) (elements_of other) && list_all (has_pair datum) (pairs_of other)

abbrev pub excludes : Datum → Datum → Bool
excludes datum other = list_all (λ x. not (has_element x datum)) (elements_of other) && list_all (λ p. not (has_pair datum p)) (pairs_of other)
