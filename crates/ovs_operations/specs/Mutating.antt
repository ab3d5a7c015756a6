-- What mutations make of the data of a row (RFC 7047 section 5.1).
use Rattle.std.specs.Prelude.{ℤ, pos, negsuc, ◌+ℤ◌, ◌-ℤ◌, ◌^◌, List, [], ◌∷◌, Bool, Ok, Err, nat_lt, slice_get, slice_set, if◌then◌else◌}
use Rattle.std.specs.Option.{ok_or}
use Rattle.ovs_json.specs.Results.{◌>>=◌}
use Rattle.ovs_data.specs.declared.atom.Atom.TheVariants.{Integer}
use Rattle.ovs_data.specs.declared.column.Column.{Column}
use Rattle.ovs_data.specs.declared.datum.Datum.{Datum}
use Rattle.ovs_data.specs.declared.datum.Datum.TheVariants as datum
use Rattle.ovs_data.specs.Mutation.{inserted, deleted}
use Rattle.ovs_types.specs.declared.schema.NamedColumn.{NamedColumn}
use Rattle.ovs_types.specs.Column.{may_count}
use Rattle.ovs_types.specs.Datum.{datum_len}
use Rattle.ovs_rows.specs.Cells.{data_of}
use Rattle.ovs_operations.specs.declared.operation_error.OperationError.TheVariants.{Constraint, RangeError, BadOperation}
use Rattle.ovs_operations.specs.declared.operation.Mutator.{Mutator}
use Rattle.ovs_operations.specs.declared.operation.Mutator.TheVariants.{Set, Add, Subtract, Insert, Delete}
use Rattle.ovs_operations.specs.declared.operation.Mutation.{Mutation}
use Rattle.ovs_operations.specs.OperationError.{Read}

-- ---- sums

-- whether 64 bits hold the number and its sign
abbrev pub fits : ℤ → Bool
fits (pos n) = nat_lt n (2 ^ 63)
fits (negsuc n) = nat_lt n (2 ^ 63)

abbrev pub in_range : ℤ → Read ℤ
in_range n = if fits n then Ok n else Err RangeError

-- the one integer that a datum is
abbrev pub integer_in : Datum → Read ℤ
integer_in (datum.Set (Integer n ∷ [])) = Ok n
integer_in d = Err BadOperation

abbrev pub one_integer : ℤ → Datum
one_integer n = datum.Set (Integer n ∷ [])

-- the sum or difference of the integers that two data are
abbrev pub computed : (ℤ → ℤ → ℤ) → Datum → Datum → Read ℤ
computed f old value = do
  x ← integer_in old
  y ← integer_in value
  in_range (f x y)

-- ---- one datum

-- a datum of as many elements or pairs as the column admits
abbrev pub counted : Column → Datum → Read Datum
counted c d = if may_count c (datum_len d) then Ok d else Err Constraint

-- what a mutator makes of the datum of a column
abbrev pub mutated : Column → Mutator → Datum → Datum → Read Datum
mutated c Set old value = Ok value
mutated c Add old value = computed ◌+ℤ◌ old value >>= λ n. Ok (one_integer n)
mutated c Subtract old value = computed ◌-ℤ◌ old value >>= λ n. Ok (one_integer n)
mutated c Insert old value = counted c (inserted old value)
mutated c Delete old value = counted c (deleted old value)

-- ---- the data of a row

abbrev pub write_one : List NamedColumn → List Datum → Mutation → Read (List Datum)
write_one columns row m = do
  named ← ok_or (slice_get columns m.column) BadOperation
  old ← ok_or (slice_get row m.column) BadOperation
  new ← mutated named.column m.mutator old m.value
  Ok (slice_set row m.column new)

-- one mutation after the other, each of what those before it left; the first fault decides
abbrev pub write_all : List NamedColumn → List Datum → List Mutation → Read (List Datum)
write_all columns row [] = Ok row
write_all columns row (m ∷ ms) = write_one columns row m >>= λ new. write_all columns new ms

-- the default of each column
abbrev pub default_row : List NamedColumn → List Datum
default_row columns = data_of columns []
