-- The schema that a JSON value stands for, or the first of its faults.
use Rattle.std.specs.Prelude.{ℕ, List, Bool, true, false, Option, Some, None, Ok, Err, if◌then◌else◌, codes, nat_eq, option_and_then, ◌==◌, ⊤}
use Rattle.std.specs.Cmp.Lexicographic.{pointwise}
use Rattle.serde_json.specs.Data.{Data, Members}
use Rattle.serde_json.specs.Find.{get, as_str, as_number, as_object, as_u64}
use Rattle.ovs_data.specs.declared.atom.AtomKind.{AtomKind}
use Rattle.ovs_data.specs.declared.atom.AtomKind.TheVariants.{Integer, Boolean, String, Uuid}
use Rattle.ovs_data.specs.declared.column.Column.{Column}
use Rattle.ovs_types.specs.declared.schema.NamedColumn.{NamedColumn}
use Rattle.ovs_types.specs.declared.schema.Table.{Table}
use Rattle.ovs_types.specs.declared.schema.Description.{Description}
use Rattle.ovs_types.specs.declared.schema.error.SchemaError.TheVariants.{BadShape, BadId, Real, BadBounds}
use Rattle.ovs_json.specs.FirstFault as faults
use Rattle.ovs_types.specs.Names.{is_id, is_name}
use Rattle.ovs_json.specs.Results.{result_map}
use Rattle.ovs_types.specs.SchemaFaults.{Read, rank}

-- ---- parts

-- what two parts are, or the first of their faults
abbrev pub both : {A B : Type 0} → Read A → Read B → Read (A × B)
both a b = faults.both rank a b

-- a part that has to be there
abbrev pub needed : {X Y : Type 0} → (X → Read Y) → Option X → Read Y
needed read None = Err BadShape
needed read (Some x) = read x

-- a part that may be absent
abbrev pub optional : {X Y : Type 0} → Y → (X → Read Y) → Option X → Read Y
optional absent read None = Ok absent
optional absent read (Some x) = read x

-- a part that is a text, or else something other
abbrev pub text_or : {Y : Type 0} → (List ℕ → Read Y) → Read Y → Option (List ℕ) → Read Y
text_or read other None = other
text_or read other (Some s) = read s

abbrev pub is : List ℕ → List ℕ → Bool
is s w = pointwise nat_eq s w

-- ---- kinds

-- an <atomic-type>
abbrev pub kind_named : List ℕ → Read AtomKind
kind_named s =
    if is s (codes "integer") then Ok Integer
    else if is s (codes "boolean") then Ok Boolean
    else if is s (codes "string") then Ok String
    else if is s (codes "uuid") then Ok Uuid
    else if is s (codes "real") then Err Real
    else Err BadShape

abbrev pub read_kind : Data → Read AtomKind
read_kind d = needed kind_named (as_str d)

-- a <base-type>: an <atomic-type>, or an object with it as its "type"
abbrev pub read_base : Data → Read AtomKind
read_base d = text_or kind_named (needed read_kind (get (codes "type") d)) (as_str d)

abbrev pub read_key : Option Data → Read AtomKind
read_key = needed read_base

abbrev pub read_value : Option Data → Read (Option AtomKind)
read_value = optional None (λ d. result_map Some (read_base d))

-- ---- bounds

-- whether "min" lets a column be empty
abbrev pub least_of : Option ℕ → Read Bool
least_of None = Err BadBounds
least_of (Some n) = if n == 0 then Ok true else if n == 1 then Ok false else Err BadBounds

abbrev pub read_least : Option Data → Read Bool
read_least = optional false (λ d. least_of (option_and_then as_u64 (as_number d)))

-- the most elements that "max" lets a column have
abbrev pub most_of : Option ℕ → Read (Option ℕ)
most_of None = Err BadBounds
most_of (Some n) = if n == 0 then Err BadBounds else Ok (Some n)

abbrev pub limit_named : List ℕ → Read (Option ℕ)
limit_named s = if is s (codes "unlimited") then Ok None else Err BadBounds

abbrev pub read_most : Option Data → Read (Option ℕ)
read_most = optional (Some 1) (λ d. text_or limit_named (most_of (option_and_then as_u64 (as_number d))) (as_str d))

-- ---- columns

abbrev pub read_kinds : Data → Read (AtomKind × Option AtomKind)
read_kinds d = both (read_key (get (codes "key") d)) (read_value (get (codes "value") d))

abbrev pub read_bounds : Data → Read (Bool × Option ℕ)
read_bounds d = both (read_least (get (codes "min") d)) (read_most (get (codes "max") d))

-- a <type> with "key", "value", "min" and "max"
abbrev pub read_object : Data → Read Column
read_object d = result_map (λ p. record { key = p.0.0; value = p.0.1; may_be_empty = p.1.0; most = p.1.1 }) (both (read_kinds d) (read_bounds d))

-- exactly one atom of a kind
abbrev pub scalar : AtomKind → Column
scalar k = record { key = k; value = None; may_be_empty = false; most = Some 1 }

-- a <type>
abbrev pub read_type : Data → Read Column
read_type d = text_or (λ s. result_map scalar (kind_named s)) (read_object d) (as_str d)

-- a <column-schema>
abbrev pub read_column : Data → Read Column
read_column d = needed read_type (get (codes "type") d)

-- ---- tables

abbrev pub checked_name : List ℕ → Read ⊤
checked_name s = if is_name s then Ok tt else Err BadId

abbrev pub read_named_column : List ℕ → Data → Read NamedColumn
read_named_column s d = result_map (λ p. record { name = s; column = p.1 }) (both (checked_name s) (read_column d))

abbrev pub read_columns : Members → Read (List NamedColumn)
read_columns = faults.read_all rank read_named_column

abbrev pub columns_in : Data → Read (List NamedColumn)
columns_in d = needed read_columns (option_and_then as_object (get (codes "columns") d))

-- a <table-schema>
abbrev pub read_table : List ℕ → Data → Read Table
read_table s d = result_map (λ p. record { name = s; columns = p.1 }) (both (checked_name s) (columns_in d))

abbrev pub read_tables : Members → Read (List Table)
read_tables = faults.read_all rank read_table

abbrev pub tables_in : Data → Read (List Table)
tables_in d = needed read_tables (option_and_then as_object (get (codes "tables") d))

-- ---- schemas

abbrev pub checked_id : List ℕ → Read (List ℕ)
checked_id s = if is_id s then Ok s else Err BadId

abbrev pub database_name : Data → Read (List ℕ)
database_name d = needed checked_id (option_and_then as_str (get (codes "name") d))

abbrev pub version : Data → Read ⊤
version d = needed (λ s. Ok tt) (option_and_then as_str (get (codes "version") d))

-- a <database-schema>
abbrev pub read_description : Data → Read Description
read_description d = result_map (λ p. record { name = p.0.0; tables = p.1 }) (both (both (database_name d) (version d)) (tables_in d))
