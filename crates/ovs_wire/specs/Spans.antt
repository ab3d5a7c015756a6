-- Where the messages lie in the bytes that a framer keeps.
use Rattle.std.specs.Prelude.{◌≡◌, ℕ, ◌+◌, ◌≤◌, List, [], ◌∷◌, length, take, drop}
use Rattle.ovs_wire.specs.declared.framing.scan.Span.{Span}
use Rattle.ovs_wire.specs.declared.framing.scan.Tail.{Tail}
use Rattle.ovs_wire.specs.ScanPosition.{place_after}
use Rattle.ovs_wire.specs.Frames.{IsUnfinished}

-- how many bytes the messages and the white space before them take
abbrev pub spanned : List Span → ℕ
spanned [] = 0
spanned (s ∷ spans) = (s.skip + s.len) + spanned spans

-- the messages: each lies behind the one before, after some white space
abbrev pub messages : List Span → List ℕ → List (List ℕ)
messages [] bytes = []
messages (s ∷ spans) bytes = take s.len (drop s.skip bytes) ∷ messages spans (drop (s.skip + s.len) bytes)

-- behind the last whole message only what is unfinished stands, up to the place, where a message may have `most` bytes
pub record IsTail (most : ℕ) (bytes : List ℕ) (tail : Tail) : Type 0 where
  pub ends : tail.end ≤ tail.start
  pub within : tail.start ≤ length bytes
  pub unfinished : IsUnfinished most (drop tail.start bytes)
  pub place : tail.place ≡ place_after (drop tail.start bytes)
