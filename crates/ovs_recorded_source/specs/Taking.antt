-- The links that are taken out of a source's desk, and the history that they are of.
use Rattle.std.specs.Prelude.{◌≡◌, ◌++◌, ◌-◌, ◌^◌, ℕ, List, length, min}
use Rattle.std.specs.List.{flat_map}
use Rattle.ovs_types.specs.declared.schema.Table.{Table}
use Rattle.ovs_links.specs.declared.link.Link.{Link}
use Rattle.ovs_source.specs.SourceDesk.{SourceDeskValue, AreBehind, AreFirst}
use Rattle.ovs_recorded_source.specs.Accounts.{link_taken}
use Rattle.ovs_recorded_source.specs.Steps.{SourceState, AreSteps, DoesAll, begun}
use Rattle.ovs_recorded_source.specs.declared.step.SourceStep.{SourceStep}

-- all that were taken out in these steps, in their order
abbrev pub links_taken : List SourceStep → List Link
links_taken made = flat_map link_taken made

-- so many, as a counter that stays at its last value
abbrev pub taken_count : List SourceStep → ℕ
taken_count made = min (length (links_taken made)) (2 ^ 64 - 1)

-- where the links of the source's history are those that were taken out and then those that weren't, they are it still behind the step
abbrev pub LeavesInOrder : SourceStep → SourceState → SourceState → Type 0
LeavesInOrder s d e = (taken : List Link) → AreBehind taken d.desk → AreBehind (taken ++ link_taken s) e.desk

-- The steps made the state of what the desk began with; and the links of its source's history are, in their order, those that were taken
-- out in these steps and then those that weren't.
pub record IsRecord (start : SourceDeskValue) (made : List SourceStep) (left : SourceState) : Type 0 where
  pub run : DoesAll (begun start) made left
  pub links : AreBehind (links_taken made) left.desk

-- All links that were taken out in some run of a desk that began so are these, in this order. They are the first of a history of these tables.
pub record AreTaken (start : SourceDeskValue) (tables : List Table) (links : List Link) : Type 0 where
  pub made : List SourceStep
  pub run : AreSteps start made
  pub all : links_taken made ≡ links
  pub first : AreFirst tables links
