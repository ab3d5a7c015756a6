-- Pairs of a key and a value, the entries of a map.
use Rattle.std.specs.Prelude.{Bool}
use Rattle.std.specs.declared.cmp.Ordering.{Ordering}
use Rattle.std.specs.Ordering.{on}
use Rattle.std.specs.Cmp.{IsTotalOrder, on_total}
use Rattle.ovs_data.specs.declared.datum.pairs.Pair.{Pair}
use Rattle.ovs_data.specs.Atom.{atom_cmp, atom_total, atom_eq}

-- the order of the keys
abbrev pub key_cmp : Pair → Pair → Ordering
key_cmp = on (λ p. p.key) atom_cmp

pub key_total : IsTotalOrder key_cmp
key_total = on_total (λ p. p.key) atom_total

abbrev pub same_value : Pair → Pair → Bool
same_value p q = atom_eq p.value q.value
