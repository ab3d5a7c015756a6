-- The texts of messages.
use Rattle.std.specs.Prelude.{◌≡◌, ℕ, List, [], ◌∷◌, ◌++◌, false}
use Rattle.serde_json.specs.Written.{has_float, compact_text}
use Rattle.ovs_wire.specs.Message.{IsWritten, json}
use Rattle.ovs_wire.specs.declared.message.Message.{Message}

-- what is written for the message: compact JSON text that says it
pub record IsTextOf (m : Message) (t : List ℕ) : Type 0 where
  pub written : IsWritten m t
  pub compact : has_float (json m) ≡ false → t ≡ compact_text (json m)

-- the texts of these messages, one after another
abbrev pub AreTextsOf : List Message → List ℕ → Type 0
AreTextsOf [] t = t ≡ []
AreTextsOf (m ∷ ms) t = (first : List ℕ) × (rest : List ℕ) × (t ≡ first ++ rest) × IsTextOf m first × AreTextsOf ms rest
