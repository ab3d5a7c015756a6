-- The lines of a text.
use Rattle.std.specs.Prelude.{◌≡◌, ◌⊎◌, ℕ, ◌==◌, nat_lt, List, [], ◌∷◌, ◌++◌, length, Bool, false, if◌then◌else◌, Option, Some, None}
use Rattle.std.specs.List.{onto_first}
use Rattle.std.specs.Io.KnownBytes.{Consumes}

-- LF (10) ends a line and is no part of it; the last line may lack it; CR is a byte as any other
abbrev pub lines_of : List ℕ → List (List ℕ)
lines_of [] = []
lines_of (b ∷ text) = if b == 10 then [] ∷ lines_of text else onto_first b (lines_of text)

-- how many bytes a read gives at most
abbrev pub most_read : ℕ
most_read = 65536

-- the most bytes of a line, without its LF
abbrev pub line_limit : ℕ
line_limit = 16777216

-- what is kept of a line: nothing where it is above the limit
abbrev pub kept : List ℕ → Option (List ℕ)
kept line = if nat_lt line_limit (length line) then None else Some line

-- a line with no byte; one that is too long is none
abbrev pub is_empty_line : Option (List ℕ) → Bool
is_empty_line None = false
is_empty_line (Some line) = length line == 0

-- no LF
abbrev pub IsUnbroken : List ℕ → Type 0
IsUnbroken [] = Unit {0}
IsUnbroken (b ∷ bytes) = ((b == 10) ≡ false) × IsUnbroken bytes

-- a text is this line, its LF and the rest, or it is the last line, which lacks its LF
abbrev pub IsCutAfter : List ℕ → List ℕ → List ℕ → Type 0
IsCutAfter whole text rest = (text ≡ whole ++ 10 ∷ rest) ⊎ ((text ≡ whole) × (rest ≡ []))

-- From the text that was left, where it is known, the first line was taken, or there was none.
abbrev pub TakesLine : Option (List ℕ) → Option (List ℕ) → Option (Option (List ℕ)) → Type 0
TakesLine None rest found = Unit {0}
TakesLine (Some text) None found = ⊥
TakesLine (Some text) (Some rest) None = (text ≡ []) × (rest ≡ [])
TakesLine (Some text) (Some rest) (Some line) =
    (whole : List ℕ) × (lines_of text ≡ whole ∷ lines_of rest) × (line ≡ kept whole) × IsUnbroken whole × IsCutAfter whole text rest

-- From a text, where it is known, a part of a line was taken that has no LF.
abbrev pub TakesPart : Option (List ℕ) → Option (List ℕ) → Type 0
TakesPart text rest = (part : List ℕ) × IsUnbroken part × Consumes text rest part

-- b at the front of the first line, if there is one
abbrev pub before_first : ℕ → List (List ℕ) → List (List ℕ)
before_first b [] = []
before_first b (line ∷ lines) = (b ∷ line) ∷ lines

-- the lines of a text that an LF ends
abbrev pub ended_lines : List ℕ → List (List ℕ)
ended_lines [] = []
ended_lines (b ∷ text) = if b == 10 then [] ∷ ended_lines text else before_first b (ended_lines text)
