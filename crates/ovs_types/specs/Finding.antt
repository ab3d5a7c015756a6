-- Tables and columns by their names, and their numbers in the order of the names.
use Rattle.std.specs.Prelude.{ℕ, suc, List, [], ◌∷◌, Option, Some, None, if◌then◌else◌, nat_eq, option_map, option_and_then}
use Rattle.std.specs.Cmp.Lexicographic.{pointwise}
use Rattle.ovs_data.specs.declared.column.Column.{Column}
use Rattle.ovs_types.specs.declared.schema.NamedColumn.{NamedColumn}
use Rattle.ovs_types.specs.declared.schema.Table.{Table}
use Rattle.ovs_types.specs.declared.schema.Description.{Description}

-- the first of a name, and its number where the first entry has the number k
abbrev pub find_from : {X Y : Type 0} → (X → List ℕ) → (X → Y) → ℕ → List X → List ℕ → Option (ℕ × Y)
find_from name_of value_of k [] name = None
find_from name_of value_of k (x ∷ xs) name = if pointwise nat_eq (name_of x) name then Some (k, value_of x) else find_from name_of value_of (suc k) xs name

-- a column's number and what it holds
abbrev pub column_named : List NamedColumn → List ℕ → Option (ℕ × Column)
column_named = find_from (λ c. c.name) (λ c. c.column) 0

-- a table's number and the table
abbrev pub table_named : List Table → List ℕ → Option (ℕ × Table)
table_named = find_from (λ t. t.name) (λ t. t) 0

-- the columns of the table of a name
abbrev pub columns_of : Description → List ℕ → Option (List NamedColumn)
columns_of d table = option_map (λ p. p.1.columns) (table_named d.tables table)

-- what the column of a name holds in the table of a name
abbrev pub column_of : Description → List ℕ → List ℕ → Option Column
column_of d table name = option_map (λ p. p.1) (option_and_then (λ columns. column_named columns name) (columns_of d table))
