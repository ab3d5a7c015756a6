-- What becomes of a session, and how it ends.
use Rattle.std.specs.Prelude.{◌≡◌, ◌⊎◌, ℕ, List, Option, Some, None, Result, Err, true}
use Rattle.ovs_session.specs.declared.limits.Limits.{Limits}
use Rattle.ovs_session.specs.declared.limits.TurnProgress.{TurnProgress}
use Rattle.ovs_session.specs.declared.ended.Ended.{Ended}
use Rattle.ovs_session.specs.declared.ended.Ended.TheVariants.{Closed, ReadFault, WriteFault, BadInput, Gone}
use Rattle.ovs_session.specs.Counting.{SpendsAtMost}
use Rattle.ovs_session.specs.Moving.{Moved, IsAnswer, IsBad, ended_by, is_final}
use Rattle.ovs_session.specs.Serving.{IsDone, fresh}
use Rattle.ovs_session.specs.Turning.{WithDevices, IsTurn, CountsFault}

-- a slot at this key became another so, or there is none at either time
abbrev pub Became : {A : Type 0} → (A → A → Type 0) → Option A → Option A → Type 0
Became moves None new = new ≡ None
Became moves (Some a) None = ⊥
Became moves (Some a) (Some b) = moves a b

-- a device failed once where the session has ended by this fault, and else never
pub record HasFailed (fault : Ended) (ended : Option Ended) (failures : ℕ) : Type 0 where
  pub once : ended ≡ Some fault → failures ≡ 1
  pub never : (ended ≡ Some fault → ⊥) → failures ≡ 0

-- Where the session has ended closed, all is done, and all that it asked for has come; where for bad input, that is bad; where by
-- a fault of a device, that failed.
pub record IsEnd {C R W : Type 0} (refuses : C → List ℕ → Type 0) (is_answered : C → Type 0) (now : WithDevices C R W) : Type 0 where
  pub closed : now.session.ended ≡ Some Closed → IsDone now.session × is_answered now.session.state
  pub bad : now.session.ended ≡ Some BadInput → IsBad refuses now.session × is_answered now.session.state
  pub read_faults : HasFailed ReadFault now.session.ended now.reader.failures
  pub write_faults : HasFailed WriteFault now.session.ended now.writer.failures

-- A session began as one that may begin, of which nothing was read or said; since then it moved bytes from its reader, of which
-- the first is left and then the second, to its writer, which has the third and then the fourth; and where it has ended it did
-- so by right.
pub record IsLawful {C R W : Type 0} (begins : C → Type 0) (answers : C → List ℕ → List ℕ → C → Type 0) (tells : C → List ℕ → C → Type 0)
    (refuses : C → List ℕ → Type 0) (is_answered : C → Type 0) (limit : ℕ) (input unread output written : Option (List ℕ))
    (began : C) (now : WithDevices C R W) : Type 0 where
  pub begun : begins began
  pub moved : Moved answers tells limit input unread output written (fresh began) now.session
  pub end : IsEnd refuses is_answered now

-- a session ended so: it keeps that end; or it keeps none, and was gone, since all was over and its devices passed nothing any more
abbrev pub EndsSo : Ended → Option Ended → Type 0
EndsSo ended kept = (kept ≡ Some ended) ⊎ ((kept ≡ None) × (ended ≡ Gone))

-- One turn of a session left it and its devices so, as `turn` says: where it had ended, that is answered again and nothing is
-- done; an end that is final is kept; and one device is called at most.
pub record Turned {C R W : Type 0} (answers : C → List ℕ → List ℕ → C → Type 0) (tells : C → List ℕ → C → Type 0)
    (refuses : C → List ℕ → Type 0) (may_answer is_answered is_told may_tell is_over : C → Type 0) (is_gone : Type 0)
    (limits : Limits) (result : Result TurnProgress Ended) (old new : WithDevices C R W) : Type 0 where
  pub over : (e : Ended) → old.session.ended ≡ Some e → (result ≡ Err e) × (new ≡ old)
  pub ends : old.session.ended ≡ None → new.session.ended ≡ ended_by result
  pub lasts : (e : Ended) → result ≡ Err e → is_final e ≡ true → new.session.ended ≡ Some e
  pub answer : old.session.ended ≡ None → IsAnswer refuses may_answer is_answered is_told is_over is_gone result new.session
  pub turned : old.session.ended ≡ None → IsTurn answers tells may_answer is_answered may_tell limits.most_unsent result old new
  pub read_faults : old.session.ended ≡ None → CountsFault ReadFault result old.reader.failures new.reader.failures
  pub write_faults : old.session.ended ≡ None → CountsFault WriteFault result old.writer.failures new.writer.failures
  pub spent : SpendsAtMost 1 limits.messages old.session.counts new.session.counts
