-- What the operations of a transaction came to, as a commit of the store.
use Rattle.std.proofs.Common.{◌≡◌, ℕ, List, Option, Some, None, refl}
use Rattle.ovs_rows.specs.Change.{Actions}
use Rattle.ovs_rows.specs.DatabaseDifference.{database_difference}
use Rattle.ovs_rows.specs.Row.{Rows}
use Rattle.ovs_links.specs.Store.{Stored, tables_of, rows_of}
use Rattle.ovs_operations.specs.Given.{ComesTo}
use Rattle.ovs_source.specs.Commits.{LeadsBy}
use Rattle.ovs_source.specs.Transacting.{Asked, context_in}

-- a change that is to be committed leads to the rows after the operations
pub some_leads : (s : Stored) (a : Asked) (row_ids : List (Option ℕ)) (rows : Option Rows) (change : Actions) → ComesTo (context_in s a row_ids) rows (Some change)
    → (r : Rows) × (rows ≡ Some r) × LeadsBy s a.id change r
some_leads s a row_ids None change comes = absurd cc
some_leads s a row_ids (Some r) change comes =
    let same : change ≡ database_difference (tables_of s) (rows_of s) r = cc in (r, refl, record { commit = comes.1; difference = same })
