-- A script: a state, and what is answered to the lines of a text.
use Rattle.std.specs.Prelude.{◌≡◌, ◌⊎◌, ℕ, ◌+◌, List, [], ◌∷◌, ◌++◌, Bool, true, false, Option}
use Rattle.ovs_script.specs.Lines.{lines_of, kept}

-- The rules of a script with states S: which answers it may give, and which states may follow. A line comes with its number,
-- and is None where it is too long.
pub record Rules (S : Type 0) : Type 1 where
  -- what is said to a line, and the state after it
  pub Answers : S → ℕ → Option (List ℕ) → List ℕ → S → Type 0
  -- the state in which the lines of a second text find it
  pub BeginsSecond : S → S → Type 0
  -- no further line of this text is heard
  pub is_over : S → Bool
  -- the last words, and whether it is content with what was heard
  pub Closes : S → List ℕ → Bool → Type 0

-- nothing is said, and the state stays
abbrev pub SaysNothing : {S : Type 0} → S → List ℕ → S → Type 0
SaysNothing s said t = (said ≡ []) × (t ≡ s)

-- from state s on, this is said to the lines from number n on, and t is the state behind them
abbrev pub Says : {S : Type 0} → Rules S → S → ℕ → List (List ℕ) → List ℕ → S → Type 0
Says rules s n [] said t = SaysNothing s said t
Says {S} rules s n (line ∷ lines) said t = ((rules.is_over s ≡ true) × SaysNothing s said t)
    ⊎ ((rules.is_over s ≡ false) × (answer : List ℕ) × (next : S) × (more : List ℕ)
    × rules.Answers s n (kept line) answer next × Says rules next (n + 1) lines more t × (said ≡ answer ++ more))

-- the same of all lines of a text, whose numbers count from 0
abbrev pub SaysTo : {S : Type 0} → Rules S → S → List ℕ → List ℕ → S → Type 0
SaysTo rules s text said t = Says rules s 0 (lines_of text) said t

-- nothing yet, or the last words
abbrev pub AreLastWordsSoFar : {S : Type 0} → Rules S → S → List ℕ → Type 0
AreLastWordsSoFar rules s words = (words ≡ []) ⊎ ((is_content : Bool) × rules.Closes s words is_content)
