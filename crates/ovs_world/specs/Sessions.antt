-- A session between a relay and the node that it follows: what its calls do.
use Rattle.std.specs.Prelude.{◌≡◌, ◌<◌, ◌⊎◌, ℕ, List, [], Bool, true, false, length, nat_lt}
use Rattle.ovs_links.specs.StepChains.{start_at}
use Rattle.ovs_links.specs.Steps.{FoldedValue}
use Rattle.ovs_links.specs.declared.link.Link.{Link}
use Rattle.ovs_reader.specs.Telling.{told, after_pump}
use Rattle.ovs_reader.specs.Turns.{turn, after_turn}
use Rattle.ovs_reader.specs.Session.{new_session}
use Rattle.ovs_upstream.specs.Hearing.{heard, hears, links_in, at_stage, opening}
use Rattle.ovs_upstream.specs.Requests.{schema_request}
use Rattle.ovs_upstream.specs.declared.up_event.UpEvent.{UpEvent}
use Rattle.ovs_upstream.specs.declared.up_event.UpEvent.TheVariants.{Links, Send, ReplyFor, Locked, Stolen, Nothing}
use Rattle.ovs_upstream.specs.declared.up_session.SyncState.{SyncState}
use Rattle.ovs_wire.specs.declared.message.Message.{Message}
use Rattle.ovs_world.specs.Asking.{schema_reply}
use Rattle.ovs_world.specs.Carrying.{Line, IsIdle, IsLarge, Chokes, Passes, Sends, SendsAll, SendsAny, Receives}
use Rattle.ovs_world.specs.declared.error.WorldError.{WorldError}
use Rattle.ovs_world.specs.declared.error.WorldError.TheVariants.{TooLarge, NoMemory}
use Rattle.ovs_world.specs.declared.sim_session.SimSession.{SimSession}

-- the chain that the node has folded begins at a greater start than the one that the session tells
abbrev pub is_behind : FoldedValue → SimSession → Bool
is_behind f s = nat_lt s.begun (start_at f)

-- its ends are those that they were, and the start of the chain that it tells
abbrev pub HasEndsOf : SimSession → SimSession → Type 0
HasEndsOf old new = (new.relay ≡ old.relay) × (new.upstream ≡ old.upstream) × (new.begun ≡ old.begun)

-- the node replies from all that it has folded
pub record Replies (f : FoldedValue) (old : SimSession) (request : Message) (new : SimSession) : Type 0 where
  pub goes_on : is_behind f old ≡ false
  pub reader : new.reader ≡ after_turn old.reader f request
  pub reply : SendsAny old.downward (turn old.reader f request).out new.downward

-- it has begun anew, and replies nothing
pub record IsSilent (f : FoldedValue) (old new : SimSession) : Type 0 where
  pub behind : is_behind f old ≡ true
  pub reader : new.reader ≡ old.reader
  pub downward : new.downward ≡ old.downward

-- a request passes up as bytes, all of it at once, and what the node replies is in flight
pub record Asks (f : FoldedValue) (old : SimSession) (request : Message) (new : SimSession) : Type 0 where
  pub ends : HasEndsOf old new
  pub up : new.up ≡ old.up
  pub passed : Passes old.upward request new.upward
  pub arrived : IsIdle new.upward
  pub answered : IsSilent f old new ⊎ Replies f old request new

-- a session opens, which tells the node's chain: the request for the schema was answered
pub record Opens (f : FoldedValue) (relay upstream asked : ℕ) (new : SimSession) : Type 0 where
  pub ends : (new.relay ≡ relay) × (new.upstream ≡ upstream)
  pub begun : new.begun ≡ start_at f
  pub up : new.up ≡ opening f.database.schema asked
  pub reader : new.reader ≡ after_turn new_session f (schema_request f.database.schema)
  pub request : Line
  pub unused : IsIdle request
  pub passed : Passes request (schema_request f.database.schema) new.upward
  pub upward : IsIdle new.upward
  pub before : Line
  pub idle : IsIdle before
  pub reply : Sends before (schema_reply f.database.schema) new.downward

-- the node tells what it has folded and hasn't told
pub record Pumps (f : FoldedValue) (old new : SimSession) : Type 0 where
  pub ends : HasEndsOf old new
  pub goes_on : is_behind f old ≡ false
  pub up : new.up ≡ old.up
  pub reader : new.reader ≡ after_pump old.reader f
  pub upward : new.upward ≡ old.upward
  pub told : SendsAll old.downward (told old.reader.monitors f.steps) new.downward

-- the same where nothing is in flight and the session isn't behind, else nothing
abbrev pub PumpsIdle : FoldedValue → SimSession → SimSession → Type 0
PumpsIdle f old new =
    (((0 < length old.downward.flight) ⊎ (is_behind f old ≡ true)) × (new ≡ old)) ⊎ ((old.downward.flight ≡ []) × Pumps f old new)

-- the relay's end at this stage, with this line behind it
abbrev pub moved_on : SimSession → SyncState → Line → SimSession
moved_on s stage line =
    record { relay = s.relay; upstream = s.upstream; begun = s.begun; up = at_stage s.up stage; reader = s.reader; upward = s.upward; downward = line }

-- what the relay's end has to send goes up
abbrev pub Goes : FoldedValue → SimSession → UpEvent → SimSession → Type 0
Goes f s (Links ls) t = t ≡ s
Goes f s (Send m) t = Asks f s m t
Goes f s (ReplyFor n a) t = t ≡ s
Goes f s (Locked name) t = t ≡ s
Goes f s (Stolen name) t = t ≡ s
Goes f s Nothing t = t ≡ s

-- the relay hears a message, of which it makes these links
pub record Hears (f : FoldedValue) (old : SimSession) (message : Message) (links : List Link) (new : SimSession) : Type 0 where
  pub stage : SyncState
  pub event : UpEvent
  pub is : hears old.up message ≡ heard stage event
  pub goes : Goes f (moved_on old stage old.downward) event new
  pub makes : links ≡ links_in event

-- the relay's end as it is, with this line behind it
abbrev pub with_line : SimSession → Line → SimSession
with_line s line =
    record { relay = s.relay; upstream = s.upstream; begun = s.begun; up = s.up; reader = s.reader; upward = s.upward; downward = line }

-- the relay hears the first message that waits, of which it makes these links
pub record HearsNext (f : FoldedValue) (old : SimSession) (links : List Link) (new : SimSession) : Type 0 where
  pub message : Message
  pub line : Line
  pub received : Receives old.downward message line
  pub hears : Hears f (with_line old line) message links new

-- ---- what ends a session

-- nothing is in flight, and nothing more will be
abbrev pub IsGone : FoldedValue → SimSession → Type 0
IsGone f s = (s.downward.flight ≡ []) × (is_behind f s ≡ true)

-- memory ran out, or this message is above the limits
abbrev pub IsNotPassed : Message → WorldError → Type 0
IsNotPassed message TooLarge = IsLarge message
IsNotPassed message NoMemory = Unit {0}
IsNotPassed message e = ⊥

-- the same of what an event sends
abbrev pub IsNotSent : UpEvent → WorldError → Type 0
IsNotSent (Links ls) e = ⊥
IsNotSent (Send m) e = IsNotPassed m e
IsNotSent (ReplyFor n a) e = ⊥
IsNotSent (Locked name) e = ⊥
IsNotSent (Stolen name) e = ⊥
IsNotSent Nothing e = ⊥

-- memory ran out, and nothing reached the relay; or one of the next n bytes makes a message above the limits
abbrev pub IsNotFed : SimSession → ℕ → WorldError → SimSession → Type 0
IsNotFed old n TooLarge new = Chokes old.downward n new.downward
IsNotFed old n NoMemory new = new ≡ old
IsNotFed old n e new = ⊥

-- what the relay has to ask, once it has heard this message, is above the limits
pub record AsksLarge (s : SimSession) (message : Message) : Type 0 where
  pub stage : SyncState
  pub request : Message
  pub is : hears s.up message ≡ heard stage (Send request)
  pub large : IsLarge request

-- the same of the first message that waits
pub record AsksLargeNext (s : SimSession) : Type 0 where
  pub message : Message
  pub line : Line
  pub received : Receives s.downward message line
  pub asks : AsksLarge (with_line s line) message

-- memory ran out, or what has to be asked is above the limits
abbrev pub IsUnheard : SimSession → Message → WorldError → Type 0
IsUnheard s message TooLarge = AsksLarge s message
IsUnheard s message NoMemory = Unit {0}
IsUnheard s message e = ⊥

abbrev pub IsUnheardNext : SimSession → WorldError → Type 0
IsUnheardNext s TooLarge = AsksLargeNext s
IsUnheardNext s NoMemory = Unit {0}
IsUnheardNext s e = ⊥
