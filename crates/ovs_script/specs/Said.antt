-- What is written of what was said.
use Rattle.std.specs.Prelude.{ℕ, List, ◌++◌, Bool, true, false, Option}
use Rattle.std.specs.Io.KnownBytes.{Appends}
use Rattle.ovs_script.specs.declared.script_error.ScriptError.{ScriptError}
use Rattle.ovs_script.specs.declared.script_error.ScriptError.TheVariants.{ReadFault, NoMemory}
use Rattle.ovs_script.specs.declared.run_end.RunEnd.{RunEnd}
use Rattle.ovs_script.specs.declared.run_end.RunEnd.TheVariants as ends
use Rattle.ovs_script.specs.Sending.{AppendsAllBut}

-- ---- where a run comes to its end

-- all of the output is written, and the end tells whether the script is content: this holds of the two
abbrev pub WritesOutput : RunEnd → (List ℕ → Bool → Type 0) → Option (List ℕ) → Option (List ℕ) → Type 0
WritesOutput ends.Clean IsAll before now = (output : List ℕ) × IsAll output true × Appends before now output
WritesOutput ends.Refused IsAll before now = (output : List ℕ) × IsAll output false × Appends before now output
WritesOutput _ IsAll before now = Unit {0}

-- ---- where it breaks off

-- of what waited and what was said all is written but what waits now; what was said is this at a read fault, and that where memory ran out
abbrev pub TellsSaid : ScriptError → (List ℕ → Type 0) → (List ℕ → Type 0) → Option (List ℕ) → Option (List ℕ) → List ℕ → List ℕ → Type 0
TellsSaid ReadFault AtRead AtMemory before now waited waiting = (said : List ℕ) × AtRead said × AppendsAllBut before now (waited ++ said) waiting
TellsSaid NoMemory AtRead AtMemory before now waited waiting = (said : List ℕ) × AtMemory said × AppendsAllBut before now (waited ++ said) waiting
TellsSaid _ AtRead AtMemory before now waited waiting = Unit {0}

-- all that was said is written: this where the run ends by a read fault, and that where it ends for want of memory
abbrev pub WritesSaid : RunEnd → (List ℕ → Type 0) → (List ℕ → Type 0) → Option (List ℕ) → Option (List ℕ) → Type 0
WritesSaid ends.ReadFault AtRead AtMemory before now = (said : List ℕ) × AtRead said × Appends before now said
WritesSaid ends.NoMemory AtRead AtMemory before now = (said : List ℕ) × AtMemory said × Appends before now said
WritesSaid _ AtRead AtMemory before now = Unit {0}
