-- What a writer is given of a text.
use Rattle.std.specs.Prelude.{◌≡◌, ℕ, List, ◌++◌, Option}
use Rattle.std.specs.Io.KnownBytes.{Appends}

-- so many bytes wait at least before they are written amid a run
abbrev pub batch : ℕ
batch = 65536

-- known bytes grew by a text without this rest of it
abbrev pub AppendsAllBut : Option (List ℕ) → Option (List ℕ) → List ℕ → List ℕ → Type 0
AppendsAllBut before now text rest = (sent : List ℕ) × Appends before now sent × (text ≡ sent ++ rest)

-- known bytes grew by the beginning of a text, perhaps by all of it
abbrev pub AppendsBeginning : Option (List ℕ) → Option (List ℕ) → List ℕ → Type 0
AppendsBeginning before now text = (rest : List ℕ) × AppendsAllBut before now text rest
