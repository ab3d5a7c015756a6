-- The selects that JSON values stand for, with the first fault of those that stand for none (RFC 7047 section 5.2.2).
use Rattle.std.specs.Prelude.{List, Option, Some, None, Err, codes, option_and_then}
use Rattle.std.specs.Option.{ok_or}
use Rattle.serde_json.specs.Data.{Data}
use Rattle.serde_json.specs.Find.{get, as_str, as_array}
use Rattle.ovs_json.specs.FirstFault.{both}
use Rattle.ovs_json.specs.Results.{◌>>=◌, result_map}
use Rattle.ovs_data.specs.declared.column.Column.{Column}
use Rattle.ovs_data.specs.declared.datum.Datum.{Datum}
use Rattle.ovs_types.specs.declared.schema.NamedColumn.{NamedColumn}
use Rattle.ovs_types.specs.declared.schema.Table.{Table}
use Rattle.ovs_types.specs.Finding.{table_named}
use Rattle.ovs_query.specs.declared.conditions.Condition.{Condition}
use Rattle.ovs_query.specs.declared.error.QueryError.TheVariants.{UnknownTable, BadCondition, BadOperation}
use Rattle.ovs_query.specs.declared.select.Select.{Select}
use Rattle.ovs_query.specs.declared.projected.Projected.{Projected}
use Rattle.ovs_query.specs.Faults.{Read, rank}
use Rattle.ovs_query.specs.ConditionReading.{read_conditions, all_shown, read_columns}

-- how the values of conditions are read
module _ (value : Column → Data → Read Datum) where
  -- "where", which has to be there
  abbrev pub read_where : List NamedColumn → Option Data → Read (List Condition)
  read_where columns None = Err BadOperation
  read_where columns (Some d) = ok_or (as_array d) BadCondition >>= read_conditions value columns

  -- "where" and "columns", of which both are looked at
  abbrev pub read_parts : List NamedColumn → Data → Read (List Condition × List Projected)
  read_parts columns d = both rank (read_where columns (get (codes "where") d)) (read_columns BadOperation (all_shown columns) columns (get (codes "columns") d))

  -- a table, conditions on its rows, and what is shown of them
  abbrev pub read_select : List Table → Data → Read Select
  read_select tables d = do
    name ← ok_or (option_and_then as_str (get (codes "table") d)) BadOperation
    table ← ok_or (table_named tables name) UnknownTable
    result_map (λ p. record { table = table.0; conditions = p.0; shown = p.1 }) (read_parts table.1.columns d)
