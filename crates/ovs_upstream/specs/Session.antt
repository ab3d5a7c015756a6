-- What is known of a session with an upstream.
use Rattle.std.specs.Prelude.{◌≡◌, ℕ, Option, IfSome, refl}
use Rattle.std.specs.Coded.{Coded, code_by, coded×, coded_ℕ, coded_option}
use Rattle.ovs_types.specs.Schema.{SchemaValue}
use Rattle.ovs_types.specs.contracts.schema.Schema as schema_row
use Rattle.ovs_rows.specs.Database.{DatabaseValue}
use Rattle.ovs_rows.specs.Row.{AreRowsOf}
use Rattle.ovs_rows.specs.contracts.database.Database as database_row
use Rattle.ovs_upstream.specs.contracts.up_session.SyncState as stage_row
use Rattle.ovs_upstream.specs.declared.up_session.SyncState.{SyncState}

pub record UpSessionValue : Type 0 where
  pub schema : SchemaValue
  -- the id that is asked
  pub asked : ℕ
  -- how far it has come
  pub stage : SyncState
  -- the database at that id, where the session goes on from a whole copy, until the answer has come
  pub known : Option DatabaseValue

-- a database of this schema
pub record IsDatabaseOf (schema : SchemaValue) (d : DatabaseValue) : Type 0 where
  pub same : d.schema ≡ schema
  pub rows : AreRowsOf d.schema.description.tables d.rows

-- what is known is a database of the session's schema
abbrev pub IsOfSchema : UpSessionValue → Type 0
IsOfSchema s = IfSome s.known (IsDatabaseOf s.schema)

-- it is stored as the tuple of its fields
abbrev pub session_code : Coded UpSessionValue
session_code =
    code_by (SchemaValue × (ℕ × (SyncState × Option DatabaseValue)))
    (coded× schema_row.the_row.coded (coded× coded_ℕ (coded× stage_row.the_row.coded (coded_option database_row.the_row.coded))))
    (λ s. (s.schema, (s.asked, (s.stage, s.known))))
    (λ p. record { schema = p.0; asked = p.1.0; stage = p.1.1.0; known = p.1.1.1 }) (λ _. refl)
