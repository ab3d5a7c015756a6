-- The connections that are out.
use Rattle.std.specs.Prelude.{ℕ, List, [], ◌∷◌, Option, None, ◌==◌, if◌then◌else◌}

-- what is noted of connections: what became of which number, and which are back
pub record Notes (A : Type 0) : Type 0 where
  pub changes : List (ℕ × Option A)
  pub back : List A

-- the state that is kept
abbrev pub newest : {A : Type 0} → List (List (ℕ × Option A) × List A) → Notes A
newest [] = record { changes = []; back = [] }
newest (state ∷ later) = record { changes = state.0; back = state.1 }

-- what holds of a number after these changes, where this held before
abbrev pub after_changes : {A : Type 0} → List (ℕ × Option A) → ℕ → Option A → Option A
after_changes [] key before = before
after_changes ((number, connection) ∷ later) key before = after_changes later key (if number == key then connection else before)

-- the connection that came in under this number and isn't back
abbrev pub out_of : {A : Type 0} → Notes A → ℕ → Option A
out_of notes key = after_changes notes.changes key None
