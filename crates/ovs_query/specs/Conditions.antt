-- Conditions on rows (RFC 7047 section 5.1).
use Rattle.std.specs.Prelude.{◌≡◌, ℕ, List, [], ◌∷◌, Bool, true, false, not, Option, Some, None, length, is_none, ◌==◌, ◌||◌}
use Rattle.std.specs.List.{list_all, list_any}
use Rattle.std.specs.declared.cmp.Ordering.{Ordering}
use Rattle.std.specs.Ordering.{is_lt, is_le, is_gt, is_ge, is_some_and}
use Rattle.ovs_data.specs.declared.atom.Atom.{Atom}
use Rattle.ovs_data.specs.declared.atom.Atom.TheVariants.{Uuid}
use Rattle.ovs_data.specs.declared.datum.Datum.{Datum}
use Rattle.ovs_types.specs.Atom.{atom_cmp}
use Rattle.ovs_types.specs.Conditions.{includes, excludes}
use Rattle.ovs_types.specs.Datum.{elements_of}
use Rattle.ovs_types.specs.Equality.{datum_eq}
use Rattle.ovs_rows.specs.declared.row.Row.{Row}
use Rattle.ovs_query.specs.declared.conditions.Test.{Test}
use Rattle.ovs_query.specs.declared.conditions.Test.TheVariants.{Less, AtMost, AtLeast, More, Equal, Unequal, Includes, Excludes}
use Rattle.ovs_query.specs.declared.conditions.Condition.{Condition}
use Rattle.ovs_query.specs.declared.clauses.Clause.{Clause}
use Rattle.ovs_query.specs.declared.clauses.Clause.TheVariants.{Always, Where}
use Rattle.ovs_query.specs.declared.projected.Field.{Field}
use Rattle.ovs_query.specs.declared.projected.Field.TheVariants.{Id}
use Rattle.ovs_query.specs.Projected.{datum_at}

-- how the one element stands to the other one; none, where there isn't one in both
abbrev pub order_of : List Atom → List Atom → Option Ordering
order_of (x ∷ []) (y ∷ []) = Some (atom_cmp x y)
order_of xs ys = None

abbrev pub order_between : Datum → Datum → Option Ordering
order_between held value = order_of (elements_of held) (elements_of value)

-- the datum of a row, held against the value
abbrev pub passes : Test → Datum → Datum → Bool
passes Less held value = is_some_and is_lt (order_between held value)
passes AtMost held value = is_some_and is_le (order_between held value)
passes AtLeast held value = is_some_and is_ge (order_between held value)
passes More held value = is_some_and is_gt (order_between held value)
passes Equal held value = datum_eq held value
passes Unequal held value = not (datum_eq held value)
passes Includes held value = includes held value
passes Excludes held value = excludes held value

-- the same of a datum that may be absent
abbrev pub passes_at : Test → Datum → Option Datum → Bool
passes_at test value None = false
passes_at test value (Some held) = passes test held value

-- the condition holds of a row
abbrev pub holds : ℕ → Row → Condition → Bool
holds id row c = passes_at c.test c.value (datum_at c.field id row)

-- all of them do
abbrev pub all_hold : List Condition → ℕ → Row → Bool
all_hold cs id row = list_all (holds id row) cs

-- the one id of a value
abbrev pub one_id : List Atom → Option ℕ
one_id (Uuid id ∷ []) = Some id
one_id atoms = None

-- the id that `_uuid` has to be equal to, if the condition says so
abbrev pub equal_id : Field → Test → Datum → Option ℕ
equal_id Id Equal value = one_id (elements_of value)
equal_id field test value = None

abbrev pub names_no_row : Condition → Bool
names_no_row c = is_none (equal_id c.field c.test c.value)

-- no row but that of this id can match
abbrev pub AdmitOnly : ℕ → List Condition → Type 0
AdmitOnly id cs = (other : ℕ) (row : Row) → all_hold cs other row ≡ true → other ≡ id

-- ---- a monitor's "where"

abbrev pub clause_holds : ℕ → Row → Clause → Bool
clause_holds id row (Always truth) = truth
clause_holds id row (Where c) = holds id row c

-- any of them holds, or there is none
abbrev pub admits : List Clause → ℕ → Row → Bool
admits cs id row = (length cs == 0) || list_any (clause_holds id row) cs
