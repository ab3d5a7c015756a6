-- Steps of a relay's desk, one after another, and what they make of it.
use Rattle.std.specs.Prelude.{◌≡◌, ℕ, List, [], ◌∷◌, ◌++◌}
use Rattle.logbook.specs.Pages.{Book}
use Rattle.ovs_desk.specs.RelayDesk.{RelayValue, new_desk}
use Rattle.ovs_desk.specs.Relaying.{Asks, TakesUp, Hears, LosesSource, FindsSource, Collects, EndsSession}
use Rattle.ovs_recorded_desk.specs.declared.entries.EventEntry.{EventEntry}
use Rattle.ovs_recorded_desk.specs.declared.entries.EventEntry.TheVariants as events
use Rattle.ovs_recorded_desk.specs.declared.step.DeskStep.{DeskStep}
use Rattle.ovs_recorded_desk.specs.declared.step.DeskStep.TheVariants as steps

-- the step makes the second desk of the first
abbrev pub Does : DeskStep → RelayValue → RelayValue → Type 0
Does (steps.Asked session ask reply) d e = Asks session ask.id ask.verb d reply e
Does (steps.Collected session message) d e = Collects session d message e
Does (steps.Ended session) d e = EndsSession session d e
Does (steps.WentUp message) d e = TakesUp d message e
Does (steps.Heard message result) d e = Hears message d result e
Does steps.FoundSource d e = FindsSource d e
Does steps.LostSource d e = LosesSource d e

-- the steps, one after another, make the second desk of the first
abbrev pub DoesAll : RelayValue → List DeskStep → RelayValue → Type 0
DoesAll d [] e = e ≡ d
DoesAll d (s ∷ later) e = (m : RelayValue) × Does s d m × DoesAll m later e

-- these can be all steps of a desk that was new: some desk is made by them
abbrev pub AreSteps : List ℕ → List DeskStep → Type 0
AreSteps database made = (e : RelayValue) × DoesAll (new_desk database) made e

-- all steps of a desk, and the desk
pub record RecordedValue : Type 0 where
  pub steps : List DeskStep
  pub desk : RelayValue

-- one step, behind those that made the desk of a new one
pub record IsStep (database : List ℕ) (step : DeskStep) (before after : RecordedValue) : Type 0 where
  pub made : DoesAll (new_desk database) before.steps before.desk
  pub does : Does step before.desk after.desk
  pub recorded : after.steps ≡ before.steps ++ step ∷ []

-- the step stands last, behind those that were known and those that others made since
pub record EndsWith (step : DeskStep) (known now : List DeskStep) : Type 0 where
  pub others : List DeskStep
  pub all : now ≡ (known ++ others) ++ step ∷ []

-- the step is the last of a run of a desk that was new
pub record EndsRun (database : List ℕ) (step : DeskStep) : Type 0 where
  pub earlier : List DeskStep
  pub run : AreSteps database (earlier ++ step ∷ [])

-- the step of a call that gives nothing and can't fail
abbrev pub event_step : EventEntry → DeskStep
event_step (events.Ended session) = steps.Ended session
event_step events.FoundSource = steps.FoundSource
event_step events.LostSource = steps.LostSource

-- of a name that a call is still to pick
abbrev pub no_history : Book
no_history = record { number = 0; log_name = 0; cells_name = 0 }
