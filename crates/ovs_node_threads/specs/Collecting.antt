-- What a relay's desk gives a session of a running node.
use Rattle.std.specs.Prelude.{◌≡◌, ◌⊎◌, ℕ, Bool, true, false, List, Some, None}
use mathlib.Core.List.{IsPrefix}
use Rattle.ovs_links.specs.declared.step.Step.{Step}
use Rattle.ovs_wire.specs.declared.message.Message.{Message}
use Rattle.ovs_desk.specs.Ledger.{next_standing}
use Rattle.ovs_desk.specs.RelayDesk.{RelayValue, new_desk}
use Rattle.ovs_desk.specs.Relaying.{Collects}
use Rattle.ovs_desk.specs.ShownRuns.{IsShownFirst}
use Rattle.ovs_recorded_desk.specs.Steps.{DoesAll, EndsWith}
use Rattle.ovs_recorded_desk.specs.declared.step.DeskStep.{DeskStep}
use Rattle.ovs_recorded_desk.specs.declared.step.DeskStep.TheVariants.{Collected}
use Rattle.ovs_views.specs.Published.{is_shown}

-- A desk that was made of a new one by a run of steps gave the message to the session, as it gives what it owes. Where answers are held back, the session was shown these steps, and
-- their last chain begins where the first answer stood that was due to it, or at a greater start, or has a step of that id.
pub record IsCollected (database : List ℕ) (held : Bool) (session_id : ℕ) (steps : List Step) (m : Message) : Type 0 where
  pub made : List DeskStep
  pub desk : RelayValue
  pub run : DoesAll (new_desk database) made desk
  pub left : RelayValue
  pub shown : held ≡ true → IsShownFirst session_id (is_shown steps) desk.forwards.ledger
  pub collects : Collects session_id desk (Some m) left

-- All steps of a desk came to be known. After them an answer is due to the session, and the first stands where the last chain of the
-- steps that it was shown isn't yet.
pub record IsHeldBack (database : List ℕ) (session_id : ℕ) (shown : List Step) (known now : List DeskStep) : Type 0 where
  pub learnt : IsPrefix known now
  pub desk : RelayValue
  pub run : DoesAll (new_desk database) now desk
  pub id : ℕ
  pub stands : next_standing session_id desk.forwards.ledger ≡ Some id
  pub unshown : is_shown shown id ≡ false

-- nothing is collected: the desk owed the session nothing, or answers are held back, and so is the first
abbrev pub HasNone : List ℕ → Bool → ℕ → List Step → List DeskStep → List DeskStep → Type 0
HasNone database held session_id shown known now = EndsWith (Collected session_id None) known now ⊎ ((held ≡ true) × IsHeldBack database session_id shown known now)
