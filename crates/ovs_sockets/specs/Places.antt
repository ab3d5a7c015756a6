-- Places that are taken in turn.
use Rattle.std.specs.Prelude.{◌+◌, ◌<◌, ℕ, nat_lt, if◌then◌else◌}

-- the place behind this one of so many, which is the first behind the last
abbrev pub next_place : ℕ → ℕ → ℕ
next_place places at = if nat_lt (at + 1) places then at + 1 else 0
