-- How often something may still be done: so often, or without a bound.
use Rattle.std.specs.Prelude.{◌≡◌, ◌⊎◌, ◌+◌, ℕ, Option, Some, None}

-- one of so many is used up, and without a bound none is
abbrev pub IsOneLess : Option ℕ → Option ℕ → Type 0
IsOneLess None after = after ≡ None
IsOneLess (Some before) after = (left : ℕ) × (after ≡ Some left) × (before ≡ left + 1)

-- as many, or one less
abbrev pub IsNoMore : Option ℕ → Option ℕ → Type 0
IsNoMore before after = (after ≡ before) ⊎ IsOneLess before after
