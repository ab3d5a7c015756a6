-- The steps that a node publishes, and the database after them.
use Rattle.std.specs.Prelude.{ℕ, List, ◌≡◌, ◌==◌, ◌||◌, Bool, nat_le, drop, fold, if◌then◌else◌, Option, Some, None}
use Rattle.std.specs.List.{list_any}
use mathlib.Core.List.{IsPrefix}
use Rattle.ovs_types.specs.Schema.{SchemaValue}
use Rattle.ovs_links.specs.Absorbing.{IsStepChain, last_chain}
use Rattle.ovs_links.specs.StepChains.{start_at, start_of_steps}
use Rattle.ovs_links.specs.Steps.{FoldedValue}
use Rattle.ovs_links.specs.declared.step.Step.{Step}
use Rattle.ovs_reader.specs.Session.{SessionValue, AreStepsOf}
use Rattle.ovs_reader.specs.declared.shown_error.ShownError.{ShownError}
use Rattle.ovs_reader.specs.declared.shown_error.ShownError.TheVariants as shown
use Rattle.ovs_views.specs.declared.view_error.ViewError.{ViewError}
use Rattle.ovs_views.specs.declared.view_error.ViewError.TheVariants as faults

-- the steps are chains one after another, each from a greater start and from no rows, each step with an id of its own in its
-- chain that is no start id, of rows of the schema's tables
pub record IsNodeChain (schema : SchemaValue) (steps : List Step) : Type 0 where
  pub chain : IsStepChain schema steps
  pub of_tables : AreStepsOf schema.description.tables steps

-- a node's steps that go on from what was known: they begin with all of it
pub record GoesOn (schema : SchemaValue) (known steps : List Step) : Type 0 where
  pub begins : IsPrefix known steps
  pub chain : IsNodeChain schema steps

-- the steps after the first n of a chain from this start: all of them where it begins elsewhere
abbrev pub since_start : FoldedValue → ℕ → ℕ → List Step
since_start f start n = drop (if start == start_at f then n else 0) f.steps

-- why a session isn't answered, as a view says it
abbrev pub AreAlike : ShownError → ViewError → Type 0
AreAlike shown.Epoch e = e ≡ faults.Epoch
AreAlike shown.NoMemory e = e ≡ faults.NoMemory

-- a session, and the steps that it was shown last
pub record ViewSessionValue : Type 0 where
  pub session : SessionValue
  pub last : List Step

-- the last chain of the steps begins at the id or at a greater start, or the id is that of one of its steps
abbrev pub is_shown : List Step → ℕ → Bool
is_shown steps id = nat_le id (start_of_steps (last_chain steps)) || list_any (λ (s : Step). s.id == id) (last_chain steps)

-- what readers see now, with what is handed on to them, each of which names all steps up to its own, is what was handed on
abbrev pub AreHandedOn : List Step → List (List Step) → List Step → Type 0
AreHandedOn shown pending front = fold (λ (before : List Step) (after : List Step). after) shown pending ≡ front

-- the steps that were handed on, with that which is kept
abbrev pub all_with : List Step → Option (List Step) → List Step
all_with front None = front
all_with front (Some more) = more
