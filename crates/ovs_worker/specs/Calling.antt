-- Sessions that are to have turns again.
use Rattle.std.specs.Prelude.{◌≡◌, ◌==◌, ℕ, Bool, List, ⊤}
use Rattle.std.specs.List.{list_any, slice_index_or}
use mathlib.Core.List.{IsPrefix}
use Rattle.ovs_worker.specs.declared.run_queue.Waits.{Waits}
use Rattle.ovs_worker.specs.declared.run_queue.Waits.TheVariants.{No, ForTurn, ForMemory}

-- the session is to have turns again
abbrev pub IsWaiting : Waits → Type 0
IsWaiting No = ⊥
IsWaiting ForTurn = ⊤
IsWaiting ForMemory = ⊤

-- what the session of this number waits for
abbrev pub waits_of : List Waits → ℕ → Waits
waits_of waits key = slice_index_or waits key No

-- this number is one of these
abbrev pub is_among : List ℕ → ℕ → Bool
is_among keys key = list_any (λ k. k == key) keys

-- More sessions were called than before, behind those, and none of them had its turn.
pub record IsLater (came went new_came new_went : List ℕ) : Type 0 where
  pub called : IsPrefix came new_came
  pub waiting : new_went ≡ went
