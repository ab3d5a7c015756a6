-- A reader's session: its monitors, and how much of the chain it was shown.
use Rattle.std.specs.Prelude.{◌≡◌, ◌<◌, ◌⊎◌, ℕ, List, [], Option, Some, None, Bool, false, nat_lt}
use Rattle.std.specs.List.{AllByRecursion}
use Rattle.ovs_types.specs.declared.schema.Table.{Table}
use Rattle.ovs_query.specs.Updates.{AreTouchedOf}
use Rattle.ovs_query.specs.View.{IsMonitorOf}
use Rattle.ovs_links.specs.Steps.{FoldedValue, tables_in}
use Rattle.ovs_links.specs.StepChains.{ExtendsShown, start_at}
use Rattle.ovs_links.specs.declared.step.Step.{Step}
use Rattle.ovs_reader.specs.declared.subscription.Subscription.{Subscription}

-- the monitors in the order of their making, where the chain began that was shown last, how many steps of it there were and the id
-- after them, and whether the session has ended
pub record SessionValue : Type 0 where
  pub monitors : List Subscription
  pub start : Option ℕ
  pub shown : ℕ
  pub head : ℕ
  pub is_ended : Bool

abbrev pub new_session : SessionValue
new_session = record { monitors = []; start = None; shown = 0; head = 0; is_ended = false }

-- each monitor shows columns of these tables
abbrev pub AreMonitorsOf : List Table → List Subscription → Type 0
AreMonitorsOf tables = AllByRecursion (λ m. IsMonitorOf tables m.monitor.watches)

-- each step touches rows of these tables
abbrev pub AreStepsOf : List Table → List Step → Type 0
AreStepsOf tables = AllByRecursion (λ s. AreTouchedOf tables s.applied)

-- nothing was shown yet, or the chain extends the one that was, or it begins at a greater start
abbrev pub GoesOn : FoldedValue → Option ℕ → ℕ → ℕ → Type 0
GoesOn f None shown head = Unit {0}
GoesOn f (Some start) shown head = ((start_at f ≡ start) × ExtendsShown f shown head) ⊎ (start < start_at f)

-- it begins at a greater start than what was shown last: what a session's monitors tell wouldn't go on from what they told
abbrev pub is_over : Option ℕ → FoldedValue → Bool
is_over None f = false
is_over (Some start) f = nat_lt start (start_at f)

-- what may be shown to a session: what goes on from all that was shown to it, of the tables that its monitors show
pub record MayBeShown (s : SessionValue) (f : FoldedValue) : Type 0 where
  pub extends : GoesOn f s.start s.shown s.head
  pub monitors : AreMonitorsOf (tables_in f) s.monitors
  pub steps : AreStepsOf (tables_in f) f.steps
