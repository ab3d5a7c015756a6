-- A name that is no node's.
use Rattle.std.specs.Prelude.{[]}
use Rattle.logbook.specs.Pages.{Book}
use Rattle.serde_json.specs.Data.{null}
use Rattle.ovs_types.specs.Schema.{SchemaValue}

abbrev pub no_history : Book
no_history = record { number = 0; log_name = 0; cells_name = 0 }

abbrev pub no_schema : SchemaValue
no_schema = record { description = record { name = []; tables = [] }; json = null }
