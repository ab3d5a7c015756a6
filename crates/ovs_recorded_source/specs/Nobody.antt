-- A name that is no desk's.
use Rattle.std.specs.Prelude.{[], None}
use Rattle.std.specs.FinMap.{empty}
use Rattle.logbook.specs.Pages.{Book}
use Rattle.serde_json.specs.Data.{null}
use Rattle.ovs_types.specs.Schema.{SchemaValue}
use Rattle.ovs_source.specs.SourceDesk.{SourceDeskValue}

abbrev pub no_history : Book
no_history = record { number = 0; log_name = 0; cells_name = 0 }

abbrev pub no_schema : SchemaValue
no_schema = record { description = record { name = []; tables = [] }; json = null }

abbrev pub no_desk : SourceDeskValue
no_desk = record { source = record { schema = no_schema; links = empty; folded = [] }; locks = []; fresh = 0; next = None; unpublished = []; renewal = None }
