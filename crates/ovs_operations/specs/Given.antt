-- What a transaction's operations are given, as calls lend it.
use Rattle.std.specs.Prelude.{◌≡◌, Option, Some, None}
use Rattle.ovs_rows.specs.DatabaseDifference.{database_difference, IsCommit}
use Rattle.ovs_rows.specs.Change.{Actions}
use Rattle.ovs_rows.specs.Row.{Rows}
use Rattle.ovs_operations.specs.declared.transaction_context.TransactionContext.{TransactionContext as Lent}
use Rattle.ovs_operations.specs.Effect.{TransactionContext}
use Rattle.ovs_operations.specs.Owning.{owns}

-- the context that a call is lent
abbrev pub context_of : Lent → TransactionContext
context_of s = record {
  tables = s.before.now.schema.description.tables;
  names = s.names.now;
  owns = owns s.session s.locks.now;
  commit = s.commit;
  before = s.before.now.rows;
}

-- these rows may be committed
abbrev pub MayCommit : Lent → Rows → Type 0
MayCommit s rows = IsCommit s.before.now.schema.description.tables s.before.now.rows rows s.commit

-- what is to be committed after the operations: nothing where one of them failed, and else the change from the rows before to those
-- after them, which may be committed
abbrev pub ComesTo : TransactionContext → Option Rows → Option Actions → Type 0
ComesTo s None change = change ≡ None
ComesTo s (Some rows) change = (change ≡ Some (database_difference s.tables s.before rows)) × IsCommit s.tables s.before rows s.commit
