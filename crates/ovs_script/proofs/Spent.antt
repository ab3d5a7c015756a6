-- Calls of one device after another.
use Rattle.std.proofs.Common.{ℕ, ◌+◌, ◌∙◌, arith}
use Rattle.ovs_script.specs.Turns.{IsSpentByCalls}

pub spent_by_reader : (reads writes turns reads' turns' : ℕ) → IsSpentByCalls (reads + turns) (reads' + turns')
    → IsSpentByCalls ((reads + writes) + turns) ((reads' + writes) + turns')
spent_by_reader reads writes turns reads' turns' spent = (omega (arith, spent.0), omega (arith, spent.0, spent.1))

pub spent_by_writer : (reads writes turns writes' turns' : ℕ) → IsSpentByCalls (writes + turns) (writes' + turns')
    → IsSpentByCalls ((reads + writes) + turns) ((reads + writes') + turns')
spent_by_writer reads writes turns writes' turns' spent = (omega (arith, spent.0), omega (arith, spent.0, spent.1))

pub spent_then : (before now new : ℕ) → IsSpentByCalls before now → IsSpentByCalls now new → IsSpentByCalls before new
spent_then before now new first second = (omega (arith, first.0, second.0), second.1 ∙ first.1)
