-- The message that JSON spells, as a function.
use Rattle.std.specs.Prelude.{ℕ, List, [], ◌∷◌, Option, Some, None, codes, if◌then◌else◌, is_none, ◌&&◌, option_map}
use Rattle.serde_json.specs.Data.{Data, string, array, Items, no_items, item}
use Rattle.serde_json.specs.Find.{get}
use Rattle.ovs_wire.specs.Named.{named}
use Rattle.ovs_wire.specs.declared.message.Message.{Message}
use Rattle.ovs_wire.specs.declared.message.Message.TheVariants.{Request, Reply, Notice}
use Rattle.ovs_wire.specs.Message.{or_null, member_or_null}

-- the items as a list
abbrev pub list_of : Items → List Data
list_of no_items = []
list_of (item d ds) = d ∷ list_of ds

-- a request, or without an id a notification
abbrev pub call_of : List ℕ → List Data → Option Data → Message
call_of method params None = Notice method params
call_of method params (Some id) = Request method params id

-- what has a method, by its params and its id
abbrev pub called : List ℕ → Option Data → Data → Option Message
called method (Some (array params)) id = Some (call_of method (list_of params) (named id))
called method (Some d) id = None
called method None id = None

-- what has no method, by its result, its error and its id
abbrev pub replied : Option Data → Option Data → Data → Option Message
replied result error id = if is_none result && is_none error then None
    else option_map (Reply (or_null result) (or_null error)) (named id)

-- by the member "method"
abbrev pub message_by : Option Data → Data → Option Message
message_by (Some (string method)) d = called method (get (codes "params") d) (member_or_null (codes "id") d)
message_by (Some m) d = None
message_by None d = replied (get (codes "result") d) (get (codes "error") d) (member_or_null (codes "id") d)

-- the message that the data spell
abbrev pub message_of : Data → Option Message
message_of d = message_by (get (codes "method") d) d
