-- What is asked for a schema, and what is said to that.
use Rattle.std.specs.Prelude.{◌≡◌, ◌≢◌, ◌⊎◌, ℕ, List, [], ◌∷◌, Option, Some, None, Bool, true, false, Ok, Err, codes}
use Rattle.serde_json.specs.Data.{Data, null, string}
use Rattle.ovs_json.specs.Parts.{is_word}
use Rattle.ovs_session.specs.Moving.{Moved}
use Rattle.ovs_session.specs.Serving.{SessionValue, fresh_within}
use Rattle.ovs_types.specs.SchemaReading.{read_description}
use Rattle.ovs_wire.specs.Message.{Says, IsWritten}
use Rattle.ovs_wire.specs.declared.message.Message.{Message}
use Rattle.ovs_wire.specs.declared.message.Message.TheVariants.{Request, Reply, Notice}
use Rattle.ovs_follow.specs.declared.schema_query.reply.SchemaReply.{SchemaReply}
use Rattle.ovs_follow.specs.declared.schema_query.reply.SchemaReply.TheVariants.{Schema, NoDatabase, Unreadable}
use Rattle.ovs_follow.specs.declared.schema_query.asker.SchemaQuery.{SchemaQuery}

-- the request for the schema of the database of this name
abbrev pub request : List ℕ → Message
request database = Request (codes "get_schema") (string database ∷ []) (string (codes "schema"))

-- what these members of its reply mean: an error, or a schema, or why the result is none
abbrev pub Means : Data → Data → SchemaReply → Type 0
Means result error NoDatabase = error ≢ null
Means result error (Schema schema) = (error ≡ null) × (read_description result ≡ Ok schema.description)
Means result error (Unreadable fault) = (error ≡ null) × (read_description result ≡ Err fault)

-- what these members mean: of a reply to the request this, and of another nothing
abbrev pub MeansIf : Bool → Data → Data → Option SchemaReply → Type 0
MeansIf true result error (Some reply) = Means result error reply
MeansIf true result error None = ⊥
MeansIf false result error reply = reply ≡ None

-- what a message says to the request: a reply is known by its id, and no other message says anything
abbrev pub IsSaid : Message → Option SchemaReply → Type 0
IsSaid (Reply result error id) reply = MeansIf (is_word (codes "schema") id) result error reply
IsSaid (Request method params id) reply = reply ≡ None
IsSaid (Notice method params) reply = reply ≡ None

-- the text says a message, which says this to the request
abbrev pub IsHeard : List ℕ → Option SchemaReply → Type 0
IsHeard text reply = (m : Message) × Says text m × IsSaid m reply

-- the newer of two replies, where there is one
abbrev pub newer : Option SchemaReply → Option SchemaReply → Option SchemaReply
newer None old = old
newer (Some reply) old = Some reply

-- a message is heard, and nothing is said to it: its reply is kept
abbrev pub Hears : SchemaQuery → List ℕ → List ℕ → SchemaQuery → Type 0
Hears old text said new = (said ≡ []) × ((reply : Option SchemaReply) × IsHeard text reply × (new ≡ record old { reply = newer reply old.reply }))

-- the request is said, where it wasn't, or nothing is
abbrev pub Asks : SchemaQuery → List ℕ → SchemaQuery → Type 0
Asks old said new = ((said ≡ []) × (new ≡ old))
    ⊎ ((old.has_asked ≡ false) × IsWritten (request old.database) said × (new ≡ record old { has_asked = true }))

-- A session in which the schema of this database was asked for, and whose peer's messages may have `most` bytes, moved these bytes, and
-- this is what it was replied.
pub record HasAsked (database : List ℕ) (most limit : ℕ) (input unread output written : Option (List ℕ)) (reply : Option SchemaReply) : Type 0 where
  pub now : SessionValue SchemaQuery
  pub moved : Moved Hears Asks limit input unread output written (fresh_within most (record { database = database; has_asked = false; reply = None })) now
  pub replied : reply ≡ now.state.reply
