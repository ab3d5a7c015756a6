-- What a framer holds, and what feeding it does.
use Rattle.std.specs.Prelude.{◌≡◌, ℕ, Option, Some, None, Result, Ok, Err, List, [], ◌∷◌, ◌++◌, drop}
use Rattle.ovs_wire.specs.declared.error.FrameError.{FrameError}
use Rattle.ovs_wire.specs.Frames.{Ending, Rest, Fault, AreFrames}

-- how many bytes a message may have; the whole messages that wait, and then the rest or the first fault
pub record Framing : Type 0 where
  pub limit : ℕ
  pub waiting : List (List ℕ)
  pub ending : Ending

-- with this limit these messages wait, and the stream ends so
abbrev pub framing : ℕ → List (List ℕ) → Ending → Framing
framing limit waiting ending = record { limit = limit; waiting = waiting; ending = ending }

-- the fault, if there is one, else the rest
abbrev pub ending_of : Option FrameError → List ℕ → Ending
ending_of None rest = Rest rest
ending_of (Some fault) rest = Fault fault

-- nothing has come yet, and a message may have `most` bytes
abbrev pub IsNew : ℕ → Framing → Type 0
IsNew most now = (now.waiting ≡ []) × (now.ending ≡ Rest []) × (now.limit ≡ most)

-- the frames of what was left with the piece are added, within the same limit
pub record Adds (old : Framing) (left : List ℕ) (piece : List ℕ) (new : Framing) : Type 0 where
  pub found : List (List ℕ)
  pub frames : AreFrames old.limit (left ++ piece) found new.ending
  pub waiting : new.waiting ≡ old.waiting ++ found
  pub limit : new.limit ≡ old.limit

-- the same, by how the stream ended before
abbrev pub FeedsAfter : Ending → Framing → List ℕ → Framing → Type 0
FeedsAfter (Rest left) old piece new = Adds old left piece new
FeedsAfter (Fault fault) old piece new = new ≡ old

-- feeding the piece: after a fault nothing changes
abbrev pub Feeds : Framing → List ℕ → Framing → Type 0
Feeds old piece new = FeedsAfter old.ending old piece new

-- taking the first message that waits: the others wait on, and the limit stays
abbrev pub Takes : Framing → List ℕ → Framing → Type 0
Takes old message new = (old.waiting ≡ message ∷ new.waiting) × (new.ending ≡ old.ending) × (new.limit ≡ old.limit)

-- without the first message that waits, where one does
abbrev pub without_first : Framing → Framing
without_first now = framing now.limit (drop 1 now.waiting) now.ending

-- a feed answers the fault, where there is one
abbrev pub Answers : {X : Type 0} → Ending → Result X FrameError → Type 0
Answers (Rest rest) (Ok x) = Unit {0}
Answers (Rest rest) (Err e) = ⊥
Answers (Fault fault) (Ok x) = ⊥
Answers (Fault fault) (Err e) = fault ≡ e

-- the framing is that of the stream that was fed so far to a framer of this limit, of which these messages were taken
abbrev pub Follows : ℕ → List ℕ → List (List ℕ) → Framing → Type 0
Follows most stream taken now = AreFrames most stream (taken ++ now.waiting) now.ending × (now.limit ≡ most)

-- a call on a framer: a piece is fed, or a message taken
pub data Call : Type 0 where
  Feed : List ℕ → Call
  Take : List ℕ → Call

-- what one call does
abbrev pub Steps : Call → Framing → Framing → Type 0
Steps (Feed piece) old new = Feeds old piece new
Steps (Take message) old new = Takes old message new

-- these calls, one after another, lead from one framing to the other
abbrev pub Leads : List Call → Framing → Framing → Type 0
Leads [] old new = new ≡ old
Leads (call ∷ calls) old new = (mid : Framing) × Steps call old mid × Leads calls mid new

-- all that the calls fed
abbrev pub fed : List Call → List ℕ
fed [] = []
fed (Feed piece ∷ calls) = piece ++ fed calls
fed (Take message ∷ calls) = fed calls

-- the messages that the calls took, in order
abbrev pub taken : List Call → List (List ℕ)
taken [] = []
taken (Feed piece ∷ calls) = taken calls
taken (Take message ∷ calls) = message ∷ taken calls
