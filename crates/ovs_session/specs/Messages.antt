-- What the text of a message says.
use Rattle.std.specs.Prelude.{ℕ, List}
use Rattle.ovs_wire.specs.declared.message.Message.{Message}
use Rattle.ovs_wire.specs.Message.{Says}

-- it says no message
abbrev pub SaysNothing : List ℕ → Type 0
SaysNothing text = (m : Message) → Says text m → ⊥
