-- The limits of a message.
use Rattle.std.specs.Prelude.{ℕ}

-- how deep its objects and arrays may nest, itself counted
abbrev pub most_nesting : ℕ
most_nesting = 100

-- how many bytes it may have, where its framer has no other limit
abbrev pub most_bytes : ℕ
most_bytes = 16777216
