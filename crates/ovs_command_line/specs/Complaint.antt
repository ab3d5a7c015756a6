-- What the program says on standard error.
use Rattle.std.specs.Prelude.{ℕ}
use Rattle.ovs_script.specs.declared.run_end.RunEnd.{RunEnd}
use Rattle.ovs_script.specs.declared.run_end.RunEnd.TheVariants as ends
use Rattle.ovs_command_line.specs.declared.complaint.Complaint.{Complaint}
use Rattle.ovs_command_line.specs.declared.complaint.Complaint.TheVariants.{NotUtf8, Unopened, UnopenedFor, UnreadFile, UnreadInput, Unwritten, TurnsSpent, NoMemory}

-- the exit status beside it: 2 a fault of the command line, 3 memory, a device or the calls gave out
abbrev pub complaint_status : Complaint → ℕ
complaint_status NotUtf8 = 2
complaint_status (Unopened path) = 2
complaint_status (UnopenedFor file cause) = 2
complaint_status _ = 3

-- it says why a run ended so
abbrev pub SaysWhy : RunEnd → Complaint → Type 0
SaysWhy ends.ReadFault (UnreadFile path) = Unit {0}
SaysWhy ends.ReadFault UnreadInput = Unit {0}
SaysWhy ends.WriteFault Unwritten = Unit {0}
SaysWhy ends.TurnsSpent TurnsSpent = Unit {0}
SaysWhy ends.NoMemory NoMemory = Unit {0}
SaysWhy _ _ = ⊥
