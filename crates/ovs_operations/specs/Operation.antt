-- What an operation that was read is known to be.
use Rattle.std.specs.Prelude.{◌≡◌, ◌<◌, List, true, Some, length, slice_get}
use Rattle.std.specs.List.{AllByRecursion}
use Rattle.ovs_data.specs.declared.atom.AtomKind.TheVariants as kinds
use Rattle.ovs_data.specs.declared.column.Column.{Column}
use Rattle.ovs_data.specs.declared.datum.Datum.{Datum}
use Rattle.ovs_types.specs.declared.schema.NamedColumn.{NamedColumn}
use Rattle.ovs_types.specs.declared.schema.Table.{Table}
use Rattle.ovs_types.specs.Column.{loose}
use Rattle.ovs_types.specs.Datum.{IsDatumOf}
use Rattle.ovs_rows.specs.Row.{columns_at}
use Rattle.ovs_operations.specs.declared.operation.Mutator.{Mutator}
use Rattle.ovs_operations.specs.declared.operation.Mutator.TheVariants.{Set, Add, Subtract, Insert, Delete}
use Rattle.ovs_operations.specs.declared.operation.Mutation.{Mutation}
use Rattle.ovs_operations.specs.declared.operation.Alteration.TheVariants as alters
use Rattle.ovs_operations.specs.declared.operation.Operation.{Operation}
use Rattle.ovs_operations.specs.declared.operation.Operation.TheVariants as does
use Rattle.ovs_operations.specs.Reading.{is_scalar}

-- what the value of a mutator has to be: where it is set a datum of the column, for sums one integer, to insert a set or map of any size
abbrev pub IsValueOf : Column → Mutator → Datum → Type 0
IsValueOf c Set v = IsDatumOf c v
IsValueOf c Add v = (is_scalar c ≡ true) × (c.key ≡ kinds.Integer) × IsDatumOf c v
IsValueOf c Subtract v = (is_scalar c ≡ true) × (c.key ≡ kinds.Integer) × IsDatumOf c v
IsValueOf c Insert v = IsDatumOf (loose c) v
IsValueOf c Delete v = Unit {0}

-- a mutation of one of the columns, with a value for it
abbrev pub IsMutationOf : List NamedColumn → Mutation → Type 0
IsMutationOf columns m = (named : NamedColumn) × (slice_get columns m.column ≡ Some named) × IsValueOf named.column m.mutator m.value

abbrev pub AreMutationsOf : List NamedColumn → List Mutation → Type 0
AreMutationsOf columns = AllByRecursion (IsMutationOf columns)

-- an operation on these tables
abbrev pub IsOperationOf : List Table → Operation → Type 0
IsOperationOf tables (does.Insert p mutations) = (p.table < length tables) × AreMutationsOf (columns_at tables p.table) mutations
IsOperationOf tables (does.Alter table conditions (alters.Write mutations)) = (table < length tables) × AreMutationsOf (columns_at tables table) mutations
IsOperationOf tables (does.Alter table conditions alters.Delete) = Unit {0}
IsOperationOf tables (does.Select s) = Unit {0}
IsOperationOf tables does.Nothing = Unit {0}
