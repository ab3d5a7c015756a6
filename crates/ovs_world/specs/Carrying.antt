-- What one direction of a connection has on its way.
use Rattle.std.specs.Prelude.{◌≡◌, ℕ, false, List, [], ◌∷◌, ◌++◌, Option, Some, None, All, length, take, drop}
use Rattle.std.specs.List.{AllZip}
use Rattle.serde_json.specs.Written.{has_float, compact_text}
use Rattle.ovs_wire.specs.declared.message.Message.{Message}
use Rattle.ovs_wire.specs.Limits.{most_bytes}
use Rattle.ovs_wire.specs.Frames.{IsObject, IsTooLarge, Ending, Rest, Fault}
use Rattle.ovs_wire.specs.Framing.{Framing, IsNew, Feeds, Takes}
use Rattle.ovs_wire.specs.Texts.{Remain}
use Rattle.ovs_wire.specs.Message.{Says, IsWritten, json}

-- what is written for the message: its JSON as compact text, unless that has a number that isn't whole
pub record IsTextOf (m : Message) (t : List ℕ) : Type 0 where
  pub written : IsWritten m t
  pub compact : has_float (json m) ≡ false → t ≡ compact_text (json m)

-- what the receiving end has framed, and the bytes in flight
pub record Line : Type 0 where
  pub framing : Framing
  pub flight : List ℕ

-- nothing was sent yet
abbrev pub IsIdle : Line → Type 0
IsIdle line = IsNew most_bytes line.framing × (line.flight ≡ [])

-- the message's text came behind what was in flight
abbrev pub Sends : Line → Message → Line → Type 0
Sends old message new =
    (text : List ℕ) × IsTextOf message text × (new ≡ record { framing = old.framing; flight = old.flight ++ text })

-- the messages' texts came, one after another
abbrev pub SendsAll : Line → List Message → Line → Type 0
SendsAll old [] new = new ≡ old
SendsAll old (m ∷ ms) new = (mid : Line) × Sends old m mid × SendsAll mid ms new

-- the message's text came, if there is one
abbrev pub SendsAny : Line → Option Message → Line → Type 0
SendsAny old None new = new ≡ old
SendsAny old (Some m) new = Sends old m new

-- the first message that waits at the receiving end was taken out
abbrev pub Receives : Line → Message → Line → Type 0
Receives old m new = (text : List ℕ) × Says text m × Takes old.framing text new.framing × (new.flight ≡ old.flight)

-- the first n bytes in flight were fed to the receiving end
abbrev pub Moves : Line → ℕ → Line → Type 0
Moves old n new = Feeds old.framing (take n old.flight) new.framing × (new.flight ≡ drop n old.flight)

-- the message's text is sent, all of it is fed to the receiving end, and the message that it says is taken out
pub record Passes (old : Line) (m : Message) (new : Line) : Type 0 where
  pub sent : Line
  pub sends : Sends old m sent
  pub fed : Line
  pub feeds : Moves sent (length sent.flight) fed
  pub receives : Receives fed m new

-- no fault has come
abbrev pub IsWhole : Ending → Type 0
IsWhole (Rest rest) = Unit {0}
IsWhole (Fault fault) = ⊥

abbrev pub IsFaulty : Ending → Type 0
IsFaulty (Rest rest) = ⊥
IsFaulty (Fault fault) = Unit {0}

-- one of the first n bytes in flight is a fault; what was whole before it waits, and nothing more is framed
pub record Chokes (old : Line) (n : ℕ) (new : Line) : Type 0 where
  pub fed : Feeds old.framing (take n old.flight) new.framing
  pub faulty : IsFaulty new.framing.ending

-- the message's text is above the limits
abbrev pub IsLarge : Message → Type 0
IsLarge message = (text : List ℕ) × IsTextOf message text × IsTooLarge most_bytes text

-- these messages were sent and weren't taken out yet: those that are whole at the receiving end, and those of which
-- bytes are still to come, or of which the first is above the limits
pub record Carries (line : Line) (messages : List Message) : Type 0 where
  pub coming : List (List ℕ)
  pub texts : AllZip IsTextOf messages (line.framing.waiting ++ coming)
  pub whole : All (IsObject most_bytes) line.framing.waiting
  pub rest : Remain most_bytes line.framing.ending line.flight coming
  pub limit : line.framing.limit ≡ most_bytes

-- none of those that are whole is left, and the next of them is above the limits
pub record MeetsLarge (line : Line) : Type 0 where
  pub waiting : line.framing.waiting ≡ []
  pub faulty : IsFaulty line.framing.ending
  pub message : Message
  pub more : List Message
  pub carried : Carries line (message ∷ more)
  pub large : IsLarge message
