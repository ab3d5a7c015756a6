-- What a session does to the bytes of its devices, as far as they tell them.
use Rattle.std.specs.Prelude.{◌≡◌, ℕ, ◌<◌, ◌⊎◌, length, List, [], Option, Some, None, Bool, true, false, Result, Ok, Err, if◌then◌else◌}
use Rattle.std.specs.Io.KnownBytes.{Consumes, Appends, IsAtEnd}
use Rattle.ovs_wire.specs.Frames.{Ending, Rest, Fault}
use Rattle.ovs_wire.specs.declared.error.FrameError.{FrameError}
use Rattle.ovs_session.specs.declared.limits.TurnProgress.{TurnProgress}
use Rattle.ovs_session.specs.declared.limits.TurnProgress.TheVariants.{Idle}
use Rattle.ovs_session.specs.declared.read_outcome.ReadOutcome.{ReadOutcome}
use Rattle.ovs_session.specs.declared.read_outcome.ReadOutcome.TheVariants as read_outcomes
use Rattle.ovs_session.specs.declared.ended.Ended.{Ended}
use Rattle.ovs_session.specs.declared.ended.Ended.TheVariants.{Closed, ReadFault, WriteFault, BadInput, TurnsSpent, Gone, Epoch, NoMemory}
use Rattle.ovs_session.specs.declared.ended.ServiceError.{ServiceError}
use Rattle.ovs_session.specs.declared.ended.ServiceError.TheVariants as refusals
use Rattle.ovs_session.specs.Serving.{SessionValue, Served, IsBounded, IsDone, IsIdle}

-- the fault that the stream has, where it has one
abbrev pub fault_in : Ending → Option FrameError
fault_in (Rest rest) = None
fault_in (Fault fault) = Some fault

-- the fault that a feed answered, where it answered one
abbrev pub answered_fault : {X : Type 0} → Result X FrameError → Option FrameError
answered_fault (Ok x) = None
answered_fault (Err fault) = Some fault

-- the stream has a fault
abbrev pub is_fault : Ending → Bool
is_fault (Rest rest) = false
is_fault (Fault fault) = true

-- a read found the reader's end
abbrev pub is_end : ReadOutcome → Bool
is_end read_outcomes.Whole = false
is_end read_outcomes.Part = false
is_end read_outcomes.Nothing = false
is_end read_outcomes.Interrupted = false
is_end read_outcomes.End = true

-- nothing more comes of a session that ended so
abbrev pub is_final : Ended → Bool
is_final TurnsSpent = false
is_final NoMemory = false
is_final Closed = true
is_final ReadFault = true
is_final WriteFault = true
is_final BadInput = true
is_final Gone = true
is_final Epoch = true

-- the end is kept where it is final
abbrev pub kept : Ended → Option Ended
kept ended = if is_final ended then Some ended else None

-- why a session has ended for good, where it has
abbrev pub ended_by : {X : Type 0} → Result X Ended → Option Ended
ended_by (Ok x) = None
ended_by (Err ended) = kept ended

-- a session ends so for this refusal
abbrev pub IsRefusedFor : ServiceError → Ended → Type 0
IsRefusedFor refusals.BadInput ended = ended ≡ BadInput
IsRefusedFor refusals.Gone ended = ended ≡ Gone
IsRefusedFor refusals.Epoch ended = ended ≡ Epoch
IsRefusedFor refusals.NoMemory ended = ended ≡ NoMemory

-- a session ends so for some refusal
abbrev pub IsRefusal : Ended → Type 0
IsRefusal ended = (refusal : ServiceError) × IsRefusedFor refusal ended

-- the stream has a fault, before which all is answered, and all that was said is written
abbrev pub IsFaulty : {C : Type 0} → SessionValue C → Type 0
IsFaulty s = (is_fault s.framing.ending ≡ true) × (s.framing.waiting ≡ []) × (s.held ≡ None) × (s.unsent ≡ [])

-- the stream has a fault, or the service refuses the held message; all that was said is written
abbrev pub IsBad : {C : Type 0} → (C → List ℕ → Type 0) → SessionValue C → Type 0
IsBad refuses s = IsFaulty s ⊎ ((m : List ℕ) × (s.held ≡ Some m) × refuses s.state m × (s.unsent ≡ []))

-- The session has ended only where all is done and all that it asked for has come, or its input is bad; it stops only where
-- all that was said is written, or a write failed; what it is answered from is gone, or began anew, where it says so; and it is
-- idle only where it can do nothing by itself, and nothing more is to be told, or something is still to be written.
pub record IsAnswer {C : Type 0} (refuses : C → List ℕ → Type 0) (may_answer is_answered is_told is_over : C → Type 0) (is_gone : Type 0)
    (result : Result TurnProgress Ended) (s : SessionValue C) : Type 0 where
  pub closed : result ≡ Err Closed → IsDone s
  pub answered : (e : Ended) → result ≡ Err e → (e ≡ Closed) ⊎ (e ≡ BadInput) → is_answered s.state
  pub bad : result ≡ Err BadInput → IsBad refuses s
  pub written : (e : Ended) → result ≡ Err e → (e ≡ WriteFault → ⊥) → s.unsent ≡ []
  pub idle : result ≡ Ok Idle → IsIdle may_answer is_answered s
  pub told : result ≡ Ok Idle → is_told s.state ⊎ (0 < length s.unsent)
  pub gone : result ≡ Err Gone → is_gone
  pub epoch : result ≡ Err Epoch → is_over s.state
  pub unspent : result ≡ Err TurnsSpent → ⊥

-- The session moved bytes from its reader, of which the first is left and then the second, to its writer, which has the
-- third and then the fourth: what it read and what it wrote belong together, what is unsent stays within the bound, it is
-- at the end only where its reader is, and from then on it reads nothing.
pub record Moved {C : Type 0} (answers : C → List ℕ → List ℕ → C → Type 0) (tells : C → List ℕ → C → Type 0) (limit : ℕ)
    (input unread output written : Option (List ℕ)) (old new : SessionValue C) : Type 0 where
  pub bytes_read : List ℕ
  pub bytes_written : List ℕ
  pub reads : Consumes input unread bytes_read
  pub writes : Appends output written bytes_written
  pub served : Served answers tells old bytes_read bytes_written new
  pub bounded : IsBounded answers tells limit old new
  pub ends : new.is_at_end ≡ true → (old.is_at_end ≡ true) ⊎ IsAtEnd unread
  pub stays : old.is_at_end ≡ true → (new.is_at_end ≡ true) × (unread ≡ input)
