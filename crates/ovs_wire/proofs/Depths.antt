-- How deep the next byte of a text stands.
use Rattle.std.proofs.Common.{◌≡◌, ℕ, ◌+◌, ◌≤◌, ◌==◌, ◌||◌, ◌&&◌, not, Bool, true, false, if◌then◌else◌, List, [], ◌∷◌, ◌++◌, fold, refl, ap, sym, ◌∙◌, subst, arith}
use Rattle.std.proofs.lemmas.Bool.{eqb-true}
use Rattle.std.proofs.lemmas.List.Sums.{fold-append}
use Rattle.std.proofs.lemmas.Grind.{common_steps}
use Rattle.ovs_wire.specs.declared.framing.scan_position.ScanPosition.{ScanPosition}
use Rattle.ovs_wire.specs.Depth.{Side, Outside, Inside, Escaped, next, outside, level_after, depth}
use Rattle.ovs_wire.specs.ScanPosition.{place_at, side_after, place_after}

-- where a byte stands, and how deep
pub record Spot : Type 0 where
  pub side : Side
  pub level : ℕ

abbrev pub spot : Side → ℕ → Spot
spot side level = record { side = side; level = level }

-- the level after a byte that stands so
abbrev pub level_at : Side → ℕ → ℕ → ℕ
level_at Outside level b = level_after level b
level_at side level b = level

abbrev pub past : Spot → ℕ → Spot
past p b = spot (next p.side b) (level_at p.side p.level b)

-- the spot after the text, from a spot
abbrev pub walk : Spot → List ℕ → Spot
walk p text = fold past p text

walk_is : (side : Side) (level : ℕ) (text : List ℕ)
    → walk (spot side level) text ≡ spot (fold next side text) (fold level_after level (outside side text))
walk_is side level [] = refl
walk_is Outside level (b ∷ text) = walk_is (next Outside b) (level_after level b) text
walk_is Inside level (b ∷ text) = walk_is (next Inside b) level text
walk_is Escaped level (b ∷ text) = walk_is Inside level text

pub depth_is : (text : List ℕ) → (walk (spot Outside 0) text).level ≡ depth text
depth_is text = ap (λ (p : Spot). p.level) (walk_is Outside 0 text)

pub side_more : (u : List ℕ) (b : ℕ) → side_after (u ++ b ∷ []) ≡ next (side_after u) b
side_more u b = fold-append next Outside u (b ∷ [])

pub depth_more : (u : List ℕ) (b : ℕ) → depth (u ++ b ∷ []) ≡ level_at (side_after u) (depth u) b
depth_more u b = sym (depth_is (u ++ b ∷ [])) ∙ ap (λ (p : Spot). p.level)
    (fold-append past (spot Outside 0) u (b ∷ [])) ∙ ap (λ (p : Spot). level_at p.side p.level b)
    (walk_is Outside 0 u)

pub place_more : (u : List ℕ) (b : ℕ)
    → place_after (u ++ b ∷ []) ≡ place_at (next (side_after u) b) (level_at (side_after u) (depth u) b)
place_more u b = ap (λ s. place_at s (depth (u ++ b ∷ []))) (side_more u b) ∙ ap
    (λ n. place_at (next (side_after u) b) n) (depth_more u b)

level_by_one : (side : Side) (level b : ℕ) → level_at side level b ≤ level + 1
level_by_one Outside level b = grind (arith, common_steps)
level_by_one Inside level b = omega arith
level_by_one Escaped level b = omega arith

-- at most one deeper
pub by_one : (u : List ℕ) (b : ℕ) → depth (u ++ b ∷ []) ≤ depth u + 1
by_one u b = omega (arith, depth_more u b, level_by_one (side_after u) (depth u) b)

-- ---- one byte further, by what is kept of a place

-- of a place in a string: it is escaped, the byte is a backslash, the byte is a quote
abbrev past_quoted : ℕ → Bool → Bool → Bool → ScanPosition
past_quoted depth escaped slash quote =
    record { quoted = escaped || not quote; escaped = not escaped && slash; depth = depth }

abbrev past_plain : ℕ → ℕ → ScanPosition
past_plain depth b = record { quoted = b == 34; escaped = false; depth = level_after depth b }

abbrev pub past_place : ScanPosition → ℕ → ScanPosition
past_place p b = if p.quoted then past_quoted p.depth p.escaped (b == 92) (b == 34) else past_plain p.depth b

no_slash : (b : ℕ) → (b == 34) ≡ true → (b == 92) ≡ false
no_slash b e = subst (λ (n : ℕ). (n == 92) ≡ false) (sym (eqb-true b 34 e)) refl

plain_side : (level : ℕ) (quote : Bool)
    → place_at (if quote then Inside else Outside) level ≡ record { quoted = quote; escaped = false; depth = level }
plain_side level true = refl
plain_side level false = refl

quoted_side : (level : ℕ) (slash quote : Bool) → (quote ≡ true → slash ≡ false)
    → place_at (if quote then Outside else if slash then Escaped else Inside) level
    ≡ past_quoted level false slash quote
quoted_side level slash true none = rw (none refl) refl
quoted_side level true false none = refl
quoted_side level false false none = refl

past_side : (side : Side) (level b : ℕ)
    → place_at (next side b) (level_at side level b) ≡ past_place (place_at side level) b
past_side Outside level b = plain_side (level_after level b) (b == 34)
past_side Inside level b = quoted_side level (b == 92) (b == 34) (no_slash b)
past_side Escaped level b = refl

pub past_is : (p : ScanPosition) (b : ℕ) (before : List ℕ) → p ≡ place_after before
    → past_place p b ≡ place_after (before ++ b ∷ [])
past_is p b before is = ap (λ (q : ScanPosition). past_place q b) is ∙ sym
    (place_more before b ∙ past_side (side_after before) (depth before) b)
