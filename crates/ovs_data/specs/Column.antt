-- Columns, and how many elements they admit (RFC 7047 section 3.2).
use Rattle.std.specs.Prelude.{ℕ, Bool, true, false, not, ◌&&◌, ◌||◌, Option, Some, None, ◌==◌}
use Rattle.ovs_data.specs.declared.column.Column.{Column}

abbrev pub is_one : Option ℕ → Bool
is_one None = false
is_one (Some n) = n == 1

-- whether the column holds one element at most
abbrev pub is_single : Column → Bool
is_single c = is_one c.most

-- whether a datum may have this many elements or pairs; only a single column's are counted
abbrev pub may_count : Column → ℕ → Bool
may_count c n = not (is_single c) || (n == 1 || (c.may_be_empty && n == 0))

-- the same kinds with any number of elements
abbrev pub loose : Column → Column
loose c = record { key = c.key; value = c.value; may_be_empty = true; most = None }

-- the sets of keys of a column of maps
abbrev pub keys_column : Column → Column
keys_column c = record { key = c.key; value = None; may_be_empty = true; most = None }
