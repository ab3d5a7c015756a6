-- What is left of the messages at hand, and how a turn goes on from there.
use Rattle.std.specs.Prelude.{◌<◌, ◌⊎◌, List, ℕ, length}
use Rattle.ovs_session.specs.declared.steps.Left.{Left}
use Rattle.ovs_session.specs.declared.steps.Left.TheVariants.{Nothing, More, Untaken, Refused, Untold}
use Rattle.ovs_session.specs.Serving.{SessionValue}
use Rattle.ovs_session.specs.Turning.{HasAnswered, IsToldWithout}

-- Why the steps stopped so: messages were answered, or the service has more to tell, or something was told where the service took
-- no message, or where something was still to come; or something is to be written.
abbrev pub MayGoOn : {C : Type 0} → (C → List ℕ → C → Type 0) → (C → Type 0) → (C → Type 0) → (C → Type 0) → Left
    → SessionValue C → SessionValue C → Type 0
MayGoOn tells may_answer is_answered may_tell Nothing old new = Unit {0}
MayGoOn tells may_answer is_answered may_tell More old new = (0 < length new.unsent) ⊎ HasAnswered old new
MayGoOn tells may_answer is_answered may_tell Untaken old new = (0 < length new.unsent) ⊎ IsToldWithout tells may_answer new.state
MayGoOn tells may_answer is_answered may_tell Refused old new = (0 < length new.unsent) ⊎ IsToldWithout tells is_answered new.state
MayGoOn tells may_answer is_answered may_tell Untold old new = may_tell new.state

-- a session goes on without a device where this is left
abbrev pub GoesOn : {C : Type 0} → (C → Type 0) → (C → Type 0) → Left → C → Type 0
GoesOn may_answer is_answered Nothing state = ⊥
GoesOn may_answer is_answered More state = Unit {0}
GoesOn may_answer is_answered Untaken state = may_answer state
GoesOn may_answer is_answered Refused state = is_answered state
GoesOn may_answer is_answered Untold state = Unit {0}
