-- Databases with their steps, from the steps alone: chains one after another, with rising starts, of which the last is there.
use Rattle.std.specs.Prelude.{◌++◌, ◌<◌, ◌⊎◌, ◌≡◌, ◌&&◌, ◌^◌, Bool, List, [], ◌∷◌, fold, nat_lt, if◌then◌else◌}
use Rattle.std.specs.List.{AllByRecursion}
use mathlib.Core.List.{IsPrefix}
use Rattle.ovs_types.specs.declared.schema.Schema.{Schema}
use Rattle.ovs_types.specs.declared.schema.Table.{Table}
use Rattle.ovs_rows.specs.Row.{no_rows}
use Rattle.ovs_rows.specs.After.{ArePutOf, applied_to}
use Rattle.ovs_rows.specs.Admitting as rows
use Rattle.ovs_links.specs.Steps.{FoldedValue, tables_in}
use Rattle.ovs_links.specs.StepChains.{IsFoldedChain, start_of_steps, rows_after_steps}
use Rattle.ovs_links.specs.declared.step.Step.{Step}

-- ---- the last chain of some steps

-- the step comes from a greater start than these
abbrev pub begins_anew : List Step → Step → Bool
begins_anew xs s = nat_lt (start_of_steps xs) s.prev && nat_lt s.prev (2 ^ 64)

-- with one more step; it alone, where it begins anew
abbrev pub chain_with : List Step → Step → List Step
chain_with xs s = if begins_anew xs s then s ∷ [] else xs ++ s ∷ []

-- the steps from the last one that comes from a greater start than those before it
abbrev pub last_chain : List Step → List Step
last_chain ss = fold chain_with [] ss

-- the second has the first's steps and perhaps more, or begins at a greater start
abbrev pub StepsGoOn : List Step → List Step → Type 0
StepsGoOn xs ys = IsPrefix xs ys ⊎ (start_of_steps xs < start_of_steps ys)

-- ---- databases with them

abbrev pub no_steps : Schema → FoldedValue
no_steps schema = record { database = record { schema = schema; rows = no_rows }; steps = [] }

-- the database after these steps as one chain, with them
abbrev pub chain_by : Schema → List Step → FoldedValue
chain_by schema ss = record { database = record { schema = schema; rows = rows_after_steps no_rows ss }; steps = ss }

-- the database after the last chain of these steps, with that chain
abbrev pub folded_by : Schema → List Step → FoldedValue
folded_by schema ss = chain_by schema (last_chain ss)

-- what a step is added to: all before it, or nothing where it begins anew
abbrev pub before_step : FoldedValue → Step → FoldedValue
before_step f s = if begins_anew f.steps s then no_steps f.database.schema else f

-- with one more step, and the rows that it touched as they are after it
abbrev pub with_step : FoldedValue → Step → FoldedValue
with_step f s =
    record {
      database = record { schema = f.database.schema; rows = applied_to f.database.rows s.applied };
      steps = f.steps ++ s ∷ [];
    }

-- the same without rows that may not stand in the tables
abbrev pub with_admitted : FoldedValue → Step → FoldedValue
with_admitted f s =
    record {
      database = record { schema = f.database.schema; rows = rows.absorbed (tables_in f) f.database.rows s.applied };
      steps = f.steps ++ s ∷ [];
    }

abbrev pub folded_more : FoldedValue → Step → FoldedValue
folded_more f s = with_step (before_step f s) s

abbrev pub absorbed : FoldedValue → Step → FoldedValue
absorbed f s = with_admitted (before_step f s) s

-- the same with these steps, one after the other
abbrev pub absorbed_all : FoldedValue → List Step → FoldedValue
absorbed_all = fold absorbed

-- all rows that the steps touched may stand in the tables after them
abbrev pub AreStepsPutOf : List Table → List Step → Type 0
AreStepsPutOf tables = AllByRecursion (λ s. ArePutOf tables s.applied)

-- up to each of the steps, the last chain is one from a start and no rows, each of its steps has an id of its own that is no start
-- id, and all rows may stand in the schema's tables
pub record IsStepChain (schema : Schema) (ss : List Step) : Type 0 where
  pub chain : (xs : List Step) → IsPrefix xs ss → IsFoldedChain (folded_by schema xs)
  pub of_tables : AreStepsPutOf schema.description.tables ss
