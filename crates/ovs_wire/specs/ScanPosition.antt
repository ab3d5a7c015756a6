-- What the code keeps of the bytes before a place.
use Rattle.std.specs.Prelude.{ℕ, Bool, true, false, List, fold}
use Rattle.ovs_wire.specs.declared.framing.scan_position.ScanPosition.{ScanPosition}
use Rattle.ovs_wire.specs.Depth.{Side, Outside, Escaped, next, depth}

-- in a string
abbrev pub is_quoted : Side → Bool
is_quoted Outside = false
is_quoted side = true

-- right after a backslash that escapes
abbrev pub is_escaped : Side → Bool
is_escaped Escaped = true
is_escaped side = false

-- a place that stands so, this deep
abbrev pub place_at : Side → ℕ → ScanPosition
place_at side depth = record { quoted = is_quoted side; escaped = is_escaped side; depth = depth }

-- where the byte after these stands
abbrev pub side_after : List ℕ → Side
side_after bytes = fold next Outside bytes

-- the place after these bytes
abbrev pub place_after : List ℕ → ScanPosition
place_after bytes = place_at (side_after bytes) (depth bytes)
