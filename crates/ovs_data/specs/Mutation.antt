-- The mutators "insert" and "delete" of sets and maps (RFC 7047 section 5.1).
use Rattle.std.specs.Prelude.{◌≡◌, ◌++◌, Bool, not, ◌||◌}
use Rattle.std.specs.List.{filter}
use Rattle.std.specs.Option.{option_or}
use Rattle.ovs_data.specs.declared.atom.Atom.{Atom}
use Rattle.ovs_data.specs.declared.datum.Datum.{Datum}
use Rattle.ovs_data.specs.declared.datum.pairs.Pair.{Pair}
use Rattle.ovs_data.specs.declared.datum.Datum.TheVariants.{Set, Map}
use Rattle.ovs_data.specs.Ascending.{in_order}
use Rattle.ovs_data.specs.Atom.{atom_cmp}
use Rattle.ovs_data.specs.Conditions.{has_pair}
use Rattle.ovs_data.specs.Datum.{contains, has_element, value_in}
use Rattle.ovs_data.specs.Pairs.{key_cmp}

-- the elements of either, or the pairs of either; of a key in both the first's
abbrev pub inserted : Datum → Datum → Datum
inserted (Set xs) (Set ys) = Set (in_order atom_cmp (xs ++ ys))
inserted (Map ps) (Map qs) = Map (in_order key_cmp (ps ++ qs))
inserted (Set xs) (Map qs) = Set xs
inserted (Map ps) (Set ys) = Map ps

-- whether the other deletes a pair: a map that has it, or a set that has its key
abbrev pub deletes : Datum → Pair → Bool
deletes (Set ks) p = contains p.key ks
deletes (Map qs) p = has_pair (Map qs) p

-- the elements that aren't the other's, or the pairs that the other doesn't delete
abbrev pub deleted : Datum → Datum → Datum
deleted (Set xs) other = Set (filter (λ x. not (has_element x other)) xs)
deleted (Map ps) other = Map (filter (λ p. not (deletes other p)) ps)

-- what each element and each key has in it
abbrev pub IsUnion : Datum → Datum → Datum → Type 0
IsUnion old other new =
    ((x : Atom) → has_element x new ≡ (has_element x old || has_element x other)) × ((k : Atom) → value_in k new ≡ option_or (value_in k old) (value_in k other))
