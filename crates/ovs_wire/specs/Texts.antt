-- Texts of messages one after another, of which a beginning has come.
use Rattle.std.specs.Prelude.{◌≡◌, ℕ, List, ◌∷◌, ◌++◌}
use Rattle.std.specs.List.{concat}
use Rattle.ovs_wire.specs.Frames.{IsTooLarge, Ending, Rest, Fault}

-- these texts aren't whole yet where the stream ends so, and these bytes are still to come: they make the texts whole, but after a
-- fault the first of the texts is too large
abbrev pub Remain : ℕ → Ending → List ℕ → List (List ℕ) → Type 0
Remain most (Rest rest) coming texts = rest ++ coming ≡ concat texts
Remain most (Fault fault) coming texts = (large : List ℕ) × (more : List (List ℕ)) × (texts ≡ large ∷ more) × IsTooLarge most large
