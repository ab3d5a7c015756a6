-- Operations one after the other.
use Rattle.std.proofs.Common.{◌≡◌, ℕ, List, ◌++◌, Bool, true, false, cond, Option, Some, None, refl, sym, ap, ◌∙◌, subst}
use Rattle.serde_json.specs.Data.{Data}
use Rattle.ovs_types.specs.declared.schema.Table.{Table}
use Rattle.ovs_rows.specs.declared.row.Row.{Row}
use Rattle.std.specs.FinMap.{get}
use Rattle.ovs_rows.specs.DatabaseDifference.{IsVersioned, IsCommit, database_difference}
use Rattle.ovs_rows.specs.Row.{Rows, AreRowsOf}
use Rattle.ovs_rows.specs.Change.{Actions}
use Rattle.ovs_rows.specs.Database.{DatabaseValue}
use Rattle.ovs_operations.specs.declared.transaction_context.TransactionContext.{TransactionContext as Lent}
use Rattle.ovs_operations.specs.Effect.{Effect}
use Rattle.ovs_operations.specs.Given.{context_of, MayCommit, ComesTo}

-- more answers before it
abbrev pub with_front : List Data → Effect → Effect
with_front front e = record { answers = front ++ e.answers; rows = e.rows }

-- rows that stay may be committed
same_versions : (id : ℕ) (row : Option Row) → IsVersioned id row row
same_versions id None = tt
same_versions id (Some row) = (λ same. refl, λ other. absurd (other refl))

pub may_stay : (tables : List Table) (rows : Rows) (id : ℕ) → AreRowsOf tables rows → IsCommit tables rows rows id
may_stay tables rows id are = record { before = are; after = are; versions = λ p. same_versions id (get rows p) }

-- ---- what is to be committed

pub comes_to : (s : Lent) (rows : Option Rows) (fine : Bool) (before : DatabaseValue) (work : Rows) (change : Option Actions) → before ≡ s.before.now → rows ≡ cond fine (Some work) None
    → (fine ≡ true → MayCommit s work) → change ≡ cond fine (Some (database_difference before.schema.description.tables before.rows work)) None → ComesTo (context_of s) rows change
comes_to s rows true before work change same is may made =
    subst (λ (o : Option Rows). ComesTo (context_of s) o change) (sym is) (made ∙ ap (λ (d : DatabaseValue). Some (database_difference d.schema.description.tables d.rows work)) same, may refl)
comes_to s rows false before work change same is may made = subst (λ (o : Option Rows). ComesTo (context_of s) o change) (sym is) made
