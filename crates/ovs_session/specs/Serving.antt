-- A session with a peer, and what it makes of what it reads.
use Rattle.std.specs.Prelude.{◌≡◌, ℕ, ◌+◌, ◌<◌, ◌≤◌, ◌⊎◌, List, [], ◌∷◌, ◌++◌, Option, Some, None, Bool, true, false, length}
use Rattle.ovs_wire.specs.Limits.{most_bytes}
use Rattle.ovs_wire.specs.Frames.{Rest}
use Rattle.ovs_wire.specs.Framing.{Framing, framing, Call, Leads, Takes, fed, taken}
use Rattle.ovs_session.specs.declared.counts.Counts.{Counts}
use Rattle.ovs_session.specs.declared.ended.Ended.{Ended}
use Rattle.ovs_session.specs.Counting.{IsAfter, with_a_message}

-- a session as contracts see it
pub record SessionValue (C : Type 0) : Type 0 where
  -- what was read and not fed to the framer yet
  pub unfed : List ℕ
  pub framing : Framing
  -- the message that was taken out of the framer and isn't answered yet
  pub held : Option (List ℕ)
  -- what the service knows of it
  pub state : C
  -- what was said and isn't written yet
  pub unsent : List ℕ
  -- a read found the reader's end
  pub is_at_end : Bool
  pub counts : Counts
  -- why it has ended for good
  pub ended : Option Ended

-- something was said: this text as the answer to a message, or this text unasked
pub data Said : Type 0 where
  Answered : List ℕ → List ℕ → Said
  Told : List ℕ → Said

-- the messages that were answered
abbrev pub messages : List Said → List (List ℕ)
messages [] = []
messages (Answered m t ∷ more) = m ∷ messages more
messages (Told t ∷ more) = messages more

-- all that was said
abbrev pub text : List Said → List ℕ
text [] = []
text (Answered m t ∷ more) = t ++ text more
text (Told t ∷ more) = t ++ text more

-- the held message, where there is one
abbrev pub holding : Option (List ℕ) → List (List ℕ)
holding None = []
holding (Some m) = m ∷ []

-- nothing was read, said or counted yet, and a message of the peer may have `most` bytes
abbrev pub fresh_within : {C : Type 0} → ℕ → C → SessionValue C
fresh_within most state = record {
  unfed = [];
  framing = framing most [] (Rest []);
  held = None;
  state = state;
  unsent = [];
  is_at_end = false;
  counts = record { turns = 0; messages = 0; bytes_out = 0 };
  ended = None;
}

-- the same, where a message may have as many bytes as where no limit is said
abbrev pub fresh : {C : Type 0} → C → SessionValue C
fresh state = fresh_within most_bytes state

-- the next message is taken out of the framer and held, where none was
pub record Holds {C : Type 0} (old new : SessionValue C) : Type 0 where
  pub message : List ℕ
  pub framing : Framing
  pub takes : Takes old.framing message framing
  pub was : old.held ≡ None
  pub now : new ≡ record old { framing = framing; held = Some message; counts = with_a_message old.counts }

-- all that was read is answered, all that was said is written, and nothing more comes
pub record IsDone {C : Type 0} (s : SessionValue C) : Type 0 where
  pub unfed : s.unfed ≡ []
  pub waiting : s.framing.waiting ≡ []
  pub held : s.held ≡ None
  pub unsent : s.unsent ≡ []
  pub is_at_end : s.is_at_end ≡ true

-- all that was read is answered; at the reader's end something that the session asked for is still to come
abbrev pub Waits : {C : Type 0} → (C → Type 0) → SessionValue C → Type 0
Waits is_answered s = (s.unfed ≡ []) × (s.framing.waiting ≡ []) × (s.held ≡ None) × (s.is_at_end ≡ true → is_answered s.state → ⊥)

-- a message is held, and something that was asked before it is still to come
abbrev pub HoldsBack : {C : Type 0} → (C → Type 0) → SessionValue C → Type 0
HoldsBack is_answered s = ((m : List ℕ) × (s.held ≡ Some m)) × (is_answered s.state → ⊥)

-- something is still to be written, or the next message may not be answered now, or waits for what is still to come, or all that was
-- read is answered
abbrev pub IsIdle : {C : Type 0} → (C → Type 0) → (C → Type 0) → SessionValue C → Type 0
IsIdle may_answer is_answered s = (0 < length s.unsent) ⊎ (may_answer s.state → ⊥) ⊎ HoldsBack is_answered s ⊎ Waits is_answered s

module _ {C : Type 0} (answers : C → List ℕ → List ℕ → C → Type 0) (tells : C → List ℕ → C → Type 0) where
  -- this is said in the first state, and leaves the second
  abbrev pub Says : Said → C → C → Type 0
  Says (Answered m t) old new = answers old m t new
  Says (Told t) old new = tells old t new

  -- this is said, one after another
  abbrev pub Runs : List Said → C → C → Type 0
  Runs [] old new = new ≡ old
  Runs (said ∷ more) old new = (mid : C) × Says said old mid × Runs more mid new

  -- The session read the bytes `bytes_read` and wrote the bytes `bytes_written`: the messages framed in what it read were answered in
  -- their order, and what it wrote is what it said, up to what is still to be fed, answered and written.
  pub record Served (old : SessionValue C) (bytes_read bytes_written : List ℕ) (new : SessionValue C) : Type 0 where
    pub calls : List Call
    pub frames : Leads calls old.framing new.framing
    pub read : old.unfed ++ bytes_read ≡ fed calls ++ new.unfed
    pub said : List Said
    pub runs : Runs said old.state new.state
    pub answered : holding old.held ++ taken calls ≡ messages said ++ holding new.held
    pub written : old.unsent ++ text said ≡ bytes_written ++ new.unsent
    pub messages_counted : IsAfter new.counts.messages old.counts.messages (length (taken calls))
    pub bytes_counted : IsAfter new.counts.bytes_out old.counts.bytes_out (length bytes_written)

  -- a text that may be said
  abbrev pub MayBeSaid : List ℕ → Type 0
  MayBeSaid t = (said : Said) × (old : C) × (new : C) × Says said old new × (text (said ∷ []) ≡ t)

  -- no more is unsent than was before, or it was below the limit when the last text was said
  abbrev pub IsBounded : ℕ → SessionValue C → SessionValue C → Type 0
  IsBounded limit old new = (length new.unsent ≤ length old.unsent)
      ⊎ ((t : List ℕ) × MayBeSaid t × (length new.unsent < limit + length t))

  -- the same without a call of a device
  pub record Worked (limit : ℕ) (old new : SessionValue C) : Type 0 where
    pub served : Served old [] [] new
    pub bounded : IsBounded limit old new
    pub same_end : new.is_at_end ≡ old.is_at_end
    pub same_turns : new.counts.turns ≡ old.counts.turns
