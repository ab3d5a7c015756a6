-- What an authority is asked and sends.
use Rattle.std.specs.Prelude.{◌≡◌, Option, Some, None}
use Rattle.serde_json.specs.Data.{Data}
use Rattle.ovs_authority.specs.declared.ask.Ask.{Ask}
use Rattle.ovs_reader.specs.Answers.{Asked, seen_verb}
use Rattle.ovs_wire.specs.declared.message.Message.{Message}
use Rattle.ovs_wire.specs.declared.message.Message.TheVariants.{Request, Reply, Notice}

-- an ask as a turn of a session shows it
abbrev pub seen_ask : Ask → Data × Asked
seen_ask ask = (ask.id, seen_verb ask.verb)

-- a reply to the request of this id
abbrev pub IsReplyTo : Data → Message → Type 0
IsReplyTo id (Reply result error replied) = replied ≡ id
IsReplyTo id (Request method params asked) = ⊥
IsReplyTo id (Notice method params) = ⊥

-- the same, or nothing yet
abbrev pub RepliesTo : Data → Option Message → Type 0
RepliesTo id None = Unit {0}
RepliesTo id (Some m) = IsReplyTo id m

-- a reply or a notification
abbrev pub IsAnswer : Message → Type 0
IsAnswer (Reply result error id) = Unit {0}
IsAnswer (Notice method params) = Unit {0}
IsAnswer (Request method params id) = ⊥

-- what is owed, and a reply or a notification
abbrev pub IsOwed : (Message → Type 0) → Message → Type 0
IsOwed owes m = owes m × IsAnswer m
