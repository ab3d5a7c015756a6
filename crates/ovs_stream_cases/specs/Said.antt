-- What a source says to a relay that asked for what comes after an id.
use Rattle.std.specs.Prelude.{◌≡◌, ℕ, Bool, true, false, List, [], ◌∷◌, Option, Some, None, Ok, map, drop, codes}
use Rattle.std.specs.List.{All, AllZip, concat}
use Rattle.serde_json.specs.Data.{null, boolean, string, array, object, no_members}
use Rattle.serde_json.specs.View.{items_of}
use Rattle.ovs_types.specs.Id.{id_text, read_id}
use Rattle.ovs_types.specs.Schema.{SchemaValue}
use Rattle.ovs_types.specs.declared.schema.Table.{Table}
use Rattle.ovs_rows.specs.ChangeReading.{read_change}
use Rattle.ovs_rows.specs.ChangeWriting.{change_json}
use Rattle.ovs_links.specs.declared.link.Link.{Link}
use Rattle.ovs_wire.specs.Frames.{IsObject}
use Rattle.ovs_wire.specs.Limits.{most_bytes}
use Rattle.ovs_wire.specs.Message.{Says}
use Rattle.ovs_wire.specs.declared.message.Message.{Message}
use Rattle.ovs_wire.specs.declared.message.Message.TheVariants.{Reply, Notice}
use Rattle.ovs_upstream.specs.Lawful.{IsAt, IsLawful, IsStreamOf}

-- ---- the messages

abbrev pub schema_reply : SchemaValue → Message
schema_reply schema = Reply schema.json null (string (codes "schema"))

-- whether the id that was asked is known, and where the updates go on
abbrev pub place_reply : Bool → ℕ → Message
place_reply known id = Reply (array (items_of (boolean known ∷ string (id_text id) ∷ object no_members ∷ []))) null (string (codes "monitor"))

abbrev pub update_notice : List Table → Link → Message
update_notice tables l = Notice (codes "update3") (string (codes "relay") ∷ string (id_text l.id) ∷ change_json tables l.change ∷ [])

-- what is written of the link's id and change reads as they
pub record IsTold (tables : List Table) (l : Link) : Type 0 where
  pub id : read_id (id_text l.id) ≡ Some l.id
  pub change : read_change tables (change_json tables l.change) ≡ Ok l.change

-- ---- a session

-- behind how many of the links the id stands, if it does
abbrev pub IsPlaceOf : List Link → ℕ → Option ℕ → Type 0
IsPlaceOf ls asked (Some k) = IsAt ls asked k
IsPlaceOf ls asked None = (k : ℕ) → IsAt ls asked k → ⊥

-- from there on the links are told, or else all of them
abbrev pub told_from : SchemaValue → List Link → ℕ → Option ℕ → List Message
told_from schema ls asked (Some k) = place_reply true asked ∷ map (update_notice schema.description.tables) (drop k ls)
told_from schema ls asked None = place_reply false 0 ∷ map (update_notice schema.description.tables) ls

abbrev pub said : SchemaValue → List Link → ℕ → Option ℕ → List Message
said schema ls asked place = schema_reply schema ∷ told_from schema ls asked place

-- the bytes are texts of these messages, one behind another, none of which has more bytes than a message may where no other limit is said
pub record AreSaid (messages : List Message) (bytes : List ℕ) : Type 0 where
  pub texts : List (List ℕ)
  pub whole : bytes ≡ concat texts
  pub frames : All (IsObject most_bytes) texts
  pub say : AllZip Says texts messages

-- the bytes are all of a session with a source that has these links: a stream of what it says, which is lawful
pub record IsSession (schema : SchemaValue) (ls : List Link) (asked : ℕ) (bytes : List ℕ) : Type 0 where
  pub place : Option ℕ
  pub is_place : IsPlaceOf ls asked place
  pub stream : IsStreamOf most_bytes (said schema ls asked place) bytes
  pub lawful : IsLawful schema.description ls asked (said schema ls asked place)
