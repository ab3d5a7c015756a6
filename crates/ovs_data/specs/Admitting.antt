-- Whether a datum is one of a column, as a test.
use Rattle.std.specs.Prelude.{List, [], ◌∷◌, Bool, true, false, ◌&&◌, Option, Some, None}
use Rattle.std.specs.List.{list_all}
use Rattle.std.specs.declared.cmp.Ordering.{Ordering}
use Rattle.std.specs.Ordering.{is_lt}
use Rattle.ovs_data.specs.declared.atom.Atom.{Atom}
use Rattle.ovs_data.specs.declared.atom.Atom.TheVariants.{Integer, Boolean, String, Uuid}
use Rattle.ovs_data.specs.declared.atom.AtomKind.{AtomKind}
use Rattle.ovs_data.specs.declared.atom.AtomKind.TheVariants as kinds
use Rattle.ovs_data.specs.declared.column.Column.{Column}
use Rattle.ovs_data.specs.declared.datum.pairs.Pair.{Pair}
use Rattle.ovs_data.specs.declared.datum.Datum.{Datum}
use Rattle.ovs_data.specs.declared.datum.Datum.TheVariants.{Set, Map}
use Rattle.ovs_data.specs.Atom.{atom_cmp}
use Rattle.ovs_data.specs.Column.{may_count}
use Rattle.ovs_data.specs.Datum.{datum_len}

abbrev pub has_kind : AtomKind → Atom → Bool
has_kind kinds.Integer (Integer z) = true
has_kind kinds.Boolean (Boolean b) = true
has_kind kinds.String (String s) = true
has_kind kinds.Uuid (Uuid id) = true
has_kind kind x = false

abbrev pub has_pair_kinds : AtomKind → AtomKind → Pair → Bool
has_pair_kinds key value p = has_kind key p.key && has_kind value p.value

-- a set of the kind, or a map of the kinds
abbrev pub has_kinds : AtomKind → Option AtomKind → Datum → Bool
has_kinds key None (Set xs) = list_all (has_kind key) xs
has_kinds key (Some value) (Map ps) = list_all (has_pair_kinds key value) ps
has_kinds key value d = false

module _ {K E : Type 0} (order : K → K → Ordering) (key : E → K) where
  abbrev pub is_before : K → List E → Bool
  is_before q [] = true
  is_before q (x ∷ xs) = is_lt (order q (key x)) && is_before q xs

  abbrev pub is_ascending : List E → Bool
  is_ascending [] = true
  is_ascending (x ∷ xs) = is_before (key x) xs && is_ascending xs

-- every datum of the program is in order
abbrev pub is_ordered : Datum → Bool
is_ordered (Set xs) = is_ascending atom_cmp (λ x. x) xs
is_ordered (Map ps) = is_ascending atom_cmp (λ p. p.key) ps

-- of the column's kinds, in order, and as many as it admits
abbrev pub admits : Column → Datum → Bool
admits c d = is_ordered d && (may_count c (datum_len d) && has_kinds c.key c.value d)
