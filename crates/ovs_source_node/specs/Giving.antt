-- What a source's desk gives a session of a running node.
use Rattle.std.specs.Prelude.{◌≡◌, ◌⊎◌, ℕ, Bool, true, false, List, Some, None}
use mathlib.Core.List.{IsPrefix}
use Rattle.std.specs.Option.{ForSome}
use Rattle.ovs_links.specs.declared.step.Step.{Step}
use Rattle.ovs_source.specs.SourceDesk.{SourceDeskValue}
use Rattle.ovs_views.specs.Published.{is_shown}
use Rattle.ovs_wire.specs.declared.message.Message.{Message}
use Rattle.ovs_recorded_source.specs.Steps.{SourceState, Does, DoesAll, EndsWith, IsGiven, begun}
use Rattle.ovs_recorded_source.specs.Waiting.{next_standing}
use Rattle.ovs_recorded_source.specs.declared.step.SourceStep.{SourceStep}
use Rattle.ovs_recorded_source.specs.declared.step.SourceStep.TheVariants.{Collected}

-- A desk to which a run of steps had led gave the message to the session: the reply that waited first for it, or a notice where none waited. Where answers are held back, the session
-- was shown these steps, and their last chain begins where that reply stood, or at a greater start, or has a step of that id.
pub record IsCollected (start : SourceDeskValue) (held : Bool) (session_id : ℕ) (shown_steps : List Step) (m : Message) : Type 0 where
  pub made : List SourceStep
  pub state : SourceState
  pub run : DoesAll (begun start) made state
  pub left : SourceState
  pub shown : held ≡ true → ForSome (next_standing session_id state.waiting) (λ id. is_shown shown_steps id ≡ true)
  pub given : IsGiven (λ s. Does s state left) session_id (Some m)

-- All steps of a desk came to be known. After them a reply waits for the session, and the first stands where the last chain of the steps
-- that it was shown isn't yet.
pub record IsHeldBack (start : SourceDeskValue) (session_id : ℕ) (shown_steps : List Step) (known now : List SourceStep) : Type 0 where
  pub learnt : IsPrefix known now
  pub state : SourceState
  pub run : DoesAll (begun start) now state
  pub id : ℕ
  pub stands : next_standing session_id state.waiting ≡ Some id
  pub unshown : is_shown shown_steps id ≡ false

-- nothing is given: no reply waited, and no notice was owed; or answers are held back, and so is the first
abbrev pub HasNone : SourceDeskValue → Bool → ℕ → List Step → List SourceStep → List SourceStep → Type 0
HasNone start held session_id shown_steps known now =
    EndsWith (Collected session_id None) known now ⊎ ((held ≡ true) × IsHeldBack start session_id shown_steps known now)

-- the same, and more came to be known then
abbrev pub HadNone : SourceDeskValue → Bool → ℕ → List Step → List SourceStep → List SourceStep → Type 0
HadNone start held session_id shown_steps known now =
    (then : List SourceStep) × HasNone start held session_id shown_steps known then × IsPrefix then now
