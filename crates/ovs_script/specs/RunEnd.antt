-- How a run ends.
use Rattle.std.specs.Prelude.{ℕ, Bool, true, false}
use Rattle.ovs_wire.specs.Counted.{one_more}
use Rattle.ovs_script.specs.declared.run_end.RunEnd.{RunEnd}
use Rattle.ovs_script.specs.declared.run_end.RunEnd.TheVariants.{Clean, Refused}
use Rattle.ovs_script.specs.declared.run_end.RunEnd.TheVariants as ends
use Rattle.ovs_script.specs.declared.script_error.ScriptError.{ScriptError}
use Rattle.ovs_script.specs.declared.script_error.ScriptError.TheVariants.{ReadFault, WriteFault, TurnsSpent, NoMemory}

-- all was read that the script wanted to hear, and all was written
abbrev pub is_whole : RunEnd → Bool
is_whole Clean = true
is_whole Refused = true
is_whole _ = false

-- the exit status of the program: 0 the script is content, 1 it isn't, 3 memory, a device or the calls gave out
abbrev pub status_of : RunEnd → ℕ
status_of Clean = 0
status_of Refused = 1
status_of _ = 3

-- the failures counted of the writer, which had so many before the run: one more exactly where the run ends by a write fault
abbrev pub writes_failed_by : ℕ → RunEnd → ℕ
writes_failed_by n ends.WriteFault = one_more n
writes_failed_by n _ = n

-- the end that a fault makes
abbrev pub end_for : ScriptError → RunEnd
end_for ReadFault = ends.ReadFault
end_for WriteFault = ends.WriteFault
end_for TurnsSpent = ends.TurnsSpent
end_for NoMemory = ends.NoMemory
