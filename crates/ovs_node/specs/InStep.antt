-- What a folder keeps from call to call.
use Rattle.std.specs.Prelude.{◌≡◌, ◌≤◌, ◌<◌, ◌⊎◌, ℕ, List, Option, None, length, take}
use Rattle.ovs_types.specs.Schema.{SchemaValue}
use Rattle.ovs_links.specs.Absorbing.{AreStepsPutOf, StepsGoOn, chain_by, last_chain}
use Rattle.ovs_links.specs.StepChains.{IsFoldedChain, start_of_steps}
use Rattle.ovs_reader.specs.Session.{AreStepsOf}
use Rattle.ovs_links.specs.declared.step.Step.{Step}
use Rattle.ovs_links.specs.Settling.{chain_of, settled_of}
use Rattle.ovs_links.specs.declared.answer.Settled.{Settled}
use Rattle.ovs_views.specs.Published.{AreHandedOn, all_with}
use Rattle.ovs_node.specs.Ledger.{IntakeValue, NoneOld, steps_in}

-- what views see, with what waits to be shown, is what was handed on; and the store's steps go on from the last chain of all that
-- was folded in
pub record IsInStep (shown : List Step) (pending : List (List Step)) (front : List Step) (kept : Option (List Step)) (steps : List Step) : Type 0 where
  pub handed_on : AreHandedOn shown pending front
  pub begins : StepsGoOn (last_chain (all_with front kept)) steps

-- the steps are one chain from a start and no rows, of rows of the schema's tables
pub record IsOneChain (schema : SchemaValue) (steps : List Step) : Type 0 where
  pub chain : IsFoldedChain (chain_by schema steps)
  pub put : AreStepsPutOf schema.description.tables steps
  pub of_tables : AreStepsOf schema.description.tables steps

-- the first n of these steps are the last chain that was shown, or it begins at a lower start and n is 0
abbrev pub HasShown : List Step → List Step → ℕ → Type 0
HasShown shown steps n = ((n ≤ length steps) × (shown ≡ take n steps)) ⊎ ((n ≡ 0) × (start_of_steps shown < start_of_steps steps))

-- nothing is left to do: no link is kept, the longest chain is folded, it is what views see, and old links are dropped where
-- that was asked for
pub record IsAtRest (intake : IntakeValue) (settled : Settled) (shown : List Step) : Type 0 where
  pub taken : intake.kept ≡ None
  pub chain : intake.store.folded ≡ chain_of intake.store
  pub settled_as : settled ≡ settled_of intake.store
  pub shown_all : last_chain shown ≡ steps_in intake.store
  pub none_old : NoneOld intake
