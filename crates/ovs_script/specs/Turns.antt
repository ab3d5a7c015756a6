-- The turns of a run.
use Rattle.std.specs.Prelude.{◌≡◌, ℕ, ◌-◌, ◌^◌, ◌≤◌, min}

-- how many read and write calls one run makes at most
abbrev pub most_turns : ℕ
most_turns = 1000000

-- Every call spends one turn: the sum of the calls that were counted and the turns that are left stays, from before to
-- now, as far as 64 bits can tell, since a count stays at its last value.
abbrev pub IsSpentByCalls : ℕ → ℕ → Type 0
IsSpentByCalls before now = (now ≤ before) × (min now (2 ^ 64 - 1) ≡ min before (2 ^ 64 - 1))
