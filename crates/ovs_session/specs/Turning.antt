-- What one turn of a session does, and several.
use Rattle.std.specs.Prelude.{◌≡◌, ℕ, zero, suc, ◌+◌, ◌<◌, ◌≤◌, ◌⊎◌, List, [], ◌++◌, None, Result, Ok, Err, length}
use Rattle.ovs_wire.specs.Counted.{Counting, one_more}
use Rattle.ovs_session.specs.declared.counts.Counts.{Counts}
use Rattle.ovs_session.specs.declared.ended.Ended.{Ended}
use Rattle.ovs_session.specs.declared.limits.TurnProgress.{TurnProgress}
use Rattle.ovs_session.specs.declared.limits.TurnProgress.TheVariants.{Busy}
use Rattle.ovs_session.specs.Counting.{IsAfter}
use Rattle.ovs_session.specs.Serving.{SessionValue, Worked, holding}

-- a session with its devices, whose calls are counted
pub record WithDevices (C R W : Type 0) : Type 0 where
  pub session : SessionValue C
  pub reader : Counting R
  pub writer : Counting W

abbrev pub with_devices : {C R W : Type 0} → SessionValue C → Counting R → Counting W → WithDevices C R W
with_devices session reader writer = record { session = session; reader = reader; writer = writer }

-- the device was called once, and so was counted
pub record IsCalled {D : Type 0} (before after : Counting D) (old new : Counts) : Type 0 where
  pub device : after.calls ≡ one_more before.calls
  pub turns : new.turns ≡ one_more old.turns

-- the device wasn't called, and no call was counted
pub record IsUncalled {D : Type 0} (before after : Counting D) (old new : Counts) : Type 0 where
  pub device : after ≡ before
  pub turns : new.turns ≡ old.turns

-- one more failure of a device, exactly where the session ended by this fault
pub record CountsFault {X : Type 0} (fault : Ended) (result : Result X Ended) (old new : ℕ) : Type 0 where
  pub failed : result ≡ Err fault → new ≡ one_more old
  pub others : (result ≡ Err fault → ⊥) → new ≡ old

-- the writer was called, for what is to be written, and the reader wasn't
pub record CallsWriter {C R W : Type 0} (old new : WithDevices C R W) : Type 0 where
  pub unsent : 0 < length old.session.unsent
  pub reader : new.reader ≡ old.reader
  pub writer : IsCalled old.writer new.writer old.session.counts new.session.counts

-- the reader was called, where nothing is to be written, fed or answered, and the writer wasn't
pub record CallsReader {C R W : Type 0} (old new : WithDevices C R W) : Type 0 where
  pub unsent : old.session.unsent ≡ []
  pub unfed : old.session.unfed ≡ []
  pub held : old.session.held ≡ None
  pub waiting : old.session.framing.waiting ≡ []
  pub reader : IsCalled old.reader new.reader old.session.counts new.session.counts
  pub writer : new.writer ≡ old.writer

-- no device was called, and nothing is to be written
pub record CallsNone {C R W : Type 0} (old new : WithDevices C R W) : Type 0 where
  pub unsent : old.session.unsent ≡ []
  pub reader : IsUncalled old.reader new.reader old.session.counts new.session.counts
  pub writer : new.writer ≡ old.writer

-- one device was called at most
abbrev pub IsExchange : {C R W : Type 0} → WithDevices C R W → WithDevices C R W → Type 0
IsExchange old new = CallsWriter old new ⊎ CallsReader old new ⊎ CallsNone old new

-- the writer took bytes, or the reader was called, or what was read before was fed
abbrev pub HasPassed : {C R W : Type 0} → WithDevices C R W → WithDevices C R W → Type 0
HasPassed old new = (length new.session.unsent < length old.session.unsent) ⊎ CallsReader old new
    ⊎ ((old.session.unfed ≡ [] → ⊥) × (new.session.unfed ≡ []))

-- the messages at hand: the one that is held, and those that wait
abbrev pub at_hand : {C : Type 0} → SessionValue C → List (List ℕ)
at_hand s = holding s.held ++ s.framing.waiting

-- messages that were at hand were answered
abbrev pub HasAnswered : {C : Type 0} → SessionValue C → SessionValue C → Type 0
HasAnswered old new = length (at_hand new) < length (at_hand old)

-- something was told where this didn't hold
abbrev pub IsToldWithout : {C : Type 0} → (C → List ℕ → C → Type 0) → (C → Type 0) → C → Type 0
IsToldWithout {C} tells Holds now = (before : C) × (said : List ℕ) × tells before said now × (Holds before → ⊥)

-- it holds since something was told
abbrev pub IsNewly : {C : Type 0} → (C → List ℕ → C → Type 0) → (C → Type 0) → C → Type 0
IsNewly tells Holds now = IsToldWithout tells Holds now × Holds now

module _ {C R W : Type 0} (answers : C → List ℕ → List ℕ → C → Type 0) (tells : C → List ℕ → C → Type 0)
    (may_answer is_answered : C → Type 0) where
  -- Why a turn isn't idle: it answered messages, or bytes passed, or more may be to be told, or what it told lets the next
  -- message be answered, or ends what was still to come.
  abbrev pub IsBusy : (C → Type 0) → WithDevices C R W → WithDevices C R W → WithDevices C R W → Type 0
  IsBusy may_tell old mid new = HasAnswered old.session mid.session ⊎ HasPassed mid new ⊎ may_tell new.session.state
      ⊎ IsNewly tells may_answer new.session.state ⊎ IsNewly tells is_answered new.session.state

  -- A turn: messages at hand are answered and what is new is told, without a device; then one device is called at most.
  pub record IsTurn (may_tell : C → Type 0) (limit : ℕ) (result : Result TurnProgress Ended) (old new : WithDevices C R W) : Type 0 where
    pub mid : SessionValue C
    pub worked : Worked answers tells limit old.session mid
    pub exchanged : IsExchange (record old { session = mid }) new
    pub busy : result ≡ Ok Busy → IsBusy may_tell old (record old { session = mid }) new

  -- so many turns, one after another, none of which ended the session
  abbrev pub AreTurns : {S : Type 0} → (S → C → Type 0) → ℕ → ℕ → WithDevices C R W → WithDevices C R W → Type 0
  AreTurns may_tell limit zero old new = new ≡ old
  AreTurns {S} may_tell limit (suc n) old new = (mid : WithDevices C R W) × AreTurns may_tell limit n old mid
      × ((service : S) × (progress : TurnProgress) × IsTurn (may_tell service) limit (Ok progress) mid new)

-- Each call of a device was counted once: `reads` calls of the reader, and `writes` of the writer, at most so many together.
pub record HasCountedAtMost {C R W : Type 0} (most : ℕ) (old new : WithDevices C R W) : Type 0 where
  pub reads : ℕ
  pub writes : ℕ
  pub within : reads + writes ≤ most
  pub reader : IsAfter new.reader.calls old.reader.calls reads
  pub writer : IsAfter new.writer.calls old.writer.calls writes
  pub turns : IsAfter new.session.counts.turns old.session.counts.turns (reads + writes)
