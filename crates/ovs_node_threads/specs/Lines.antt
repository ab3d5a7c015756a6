-- What may come of an upstream's connections.
use Rattle.std.specs.Prelude.{◌≡◌, ◌==◌, ℕ, Bool, true, false, List, Option, Some, None, if◌then◌else◌}
use Rattle.ovs_types.specs.Schema.{SchemaValue}
use Rattle.ovs_links.specs.Epochs.{EpochHistory, epochs_of, links_in}
use Rattle.ovs_links.specs.Sets.{AllOf, Among}
use Rattle.ovs_links.specs.declared.link.Link.{Link}
use Rattle.ovs_rows.specs.Database.{DatabaseValue}
use Rattle.ovs_upstream.specs.Hearing.{opening, resuming}
use Rattle.ovs_upstream.specs.declared.up_session.UpSession.{UpSession}
use Rattle.ovs_follow.specs.Deriving.{AreDerived}

-- the bytes of a connection that was asked for what comes after an id stand, read with a schema, for links alone that are admitted
-- with it, however many bytes a message may have there; where the bytes aren't told, any link is admitted
abbrev pub AdmitsBytes : (SchemaValue → Link → Type 0) → ℕ → Option (List ℕ) → Type 0
AdmitsBytes admits asked None = (schema : SchemaValue) (l : Link) → admits schema l
AdmitsBytes admits asked (Some bytes) = (most : ℕ) (schema : SchemaValue) (links : List Link) → AreDerived most (opening schema asked) bytes links → AllOf (admits schema) links

-- the same of a session that knows the database at that id, and goes on from a whole copy
abbrev pub AdmitsCopies : (SchemaValue → Link → Type 0) → ℕ → Option (List ℕ) → Type 0
AdmitsCopies admits asked None = (schema : SchemaValue) (l : Link) → admits schema l
AdmitsCopies admits asked (Some bytes) = (most : ℕ) (known : DatabaseValue) (links : List Link) → AreDerived most (resuming known asked) bytes links → AllOf (admits known.schema) links

-- a session that asks for what comes after an id, at which the database is this: it knows it, where it is to go on from a whole copy, unless
-- nothing was folded yet
abbrev pub session_at : Bool → DatabaseValue → ℕ → UpSession
session_at false database asked = opening database.schema asked
session_at true database asked = if asked == 0 then opening database.schema asked else resuming database asked

-- the same of one session
abbrev pub AdmitsIn : (SchemaValue → Link → Type 0) → UpSession → Option (List ℕ) → Type 0
AdmitsIn admits up None = (l : Link) → admits up.schema l
AdmitsIn admits up (Some bytes) = (most : ℕ) (links : List Link) → AreDerived most up bytes links → AllOf (admits up.schema) links

-- read with its schema, a link of this history
abbrev pub AmongHistory : SchemaValue → EpochHistory → SchemaValue → Link → Type 0
AmongHistory schema h read l = read ≡ schema → Among (links_in schema.description.tables (epochs_of h)) l
