-- No link was taken out of a source's desk.
use Rattle.std.specs.Prelude.{List, [], refl}
use Rattle.ovs_types.specs.declared.schema.Table.{Table}
use Rattle.ovs_source.specs.SourceDesk.{SourceDeskValue}
use Rattle.ovs_recorded_source.specs.Steps.{begun}
use Rattle.ovs_recorded_source.specs.Taking.{AreTaken}

-- the empty list is what a run of no step took out, and begins any history
pub none_taken : (start : SourceDeskValue) (tables : List Table) → AreTaken start tables []
none_taken start tables = record {
  made = [];
  run = (begun start, refl);
  all = refl;
  first = record {
    history = record { first = []; later = [] };
    is = record { first = record { distinct = tt; no_start = tt; commits = tt }; later = tt; distinct = tt };
    later = [];
    all = refl;
  };
}
