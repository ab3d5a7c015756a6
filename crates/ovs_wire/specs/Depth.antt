-- Strings and depth of JSON text. The bytes: 34 is a quote, 92 a backslash, 91 and 93 are [ and ], 123 and 125 { and }.
use Rattle.std.specs.Prelude.{ℕ, ◌+◌, ◌-◌, ◌==◌, ◌||◌, if◌then◌else◌, Bool, List, [], ◌∷◌, fold, count_by}

-- where a byte stands: outside strings, inside one, or inside one and escaped by the backslash before it
pub data Side : Type 0 where
  Outside : Side
  Inside : Side
  Escaped : Side

-- where the byte after this one stands
abbrev pub next : Side → ℕ → Side
next Outside b = if b == 34 then Inside else Outside
next Inside b = if b == 34 then Outside else if b == 92 then Escaped else Inside
next Escaped b = Inside

-- of bytes whose first stands so, those that stand outside strings
abbrev pub outside : Side → List ℕ → List ℕ
outside side [] = []
outside Outside (b ∷ bytes) = b ∷ outside (next Outside b) bytes
outside side (b ∷ bytes) = outside (next side b) bytes

-- { or [
abbrev pub is_opener : ℕ → Bool
is_opener b = (b == 123) || (b == 91)

-- } or ]
abbrev pub is_closer : ℕ → Bool
is_closer b = (b == 125) || (b == 93)

-- one level up, one down but never below 0, or none
abbrev pub level_after : ℕ → ℕ → ℕ
level_after level b = if is_opener b then level + 1 else if is_closer b then level - 1 else level

-- the openers less the closers outside strings, never below 0
abbrev pub depth : List ℕ → ℕ
depth bytes = fold level_after 0 (outside Outside bytes)

-- how many brackets open outside strings
abbrev pub openers : List ℕ → ℕ
openers bytes = count_by is_opener (outside Outside bytes)

-- how many brackets close outside strings
abbrev pub closers : List ℕ → ℕ
closers bytes = count_by is_closer (outside Outside bytes)
