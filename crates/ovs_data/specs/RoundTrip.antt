-- What is written of a datum stands for it.
use Rattle.std.specs.Prelude.{◌≡◌, Ok}
use Rattle.ovs_data.specs.declared.column.Column.{Column}
use Rattle.ovs_data.specs.declared.datum.Datum.{Datum}
use Rattle.ovs_data.specs.Datum.{IsDatumOf, AreBounded}
use Rattle.ovs_data.specs.Reading.{read_datum}
use Rattle.ovs_data.specs.Spelling.{Spells}
use Rattle.ovs_data.specs.Writing.{datum_json}

-- what a datum of a column is written as stands for it, and is read back as it
abbrev pub WhatIsWrittenReadsBack : Type 0
WhatIsWrittenReadsBack = (c : Column) (x : Datum) → IsDatumOf c x → AreBounded x → Spells c (datum_json x) x × (read_datum c (datum_json x) ≡ Ok x)
