-- Counts of 64 bits, whose last value stays.
use Rattle.std.specs.Prelude.{◌≡◌, ℕ, ◌+◌, ◌-◌, ◌^◌, ◌⊎◌, ◌≤◌, min}
use Rattle.ovs_session.specs.declared.counts.Counts.{Counts}

-- the greatest count
abbrev pub last : ℕ
last = 2 ^ 64 - 1

-- the count after so many events more
abbrev pub count_on : ℕ → ℕ → ℕ
count_on n more = min (n + more) last

-- the one count is the other after so many events more, as far as they tell
abbrev pub IsAfter : ℕ → ℕ → ℕ → Type 0
IsAfter new old more = count_on new 0 ≡ count_on old more

-- one call of a device more
abbrev pub with_a_turn : Counts → Counts
with_a_turn counts = record counts { turns = count_on counts.turns 1 }

-- one message more
abbrev pub with_a_message : Counts → Counts
with_a_message counts = record counts { messages = count_on counts.messages 1 }

-- a device was called once, or not at all
abbrev pub HasCalled : Counts → Counts → Type 0
HasCalled old new = (new ≡ old) ⊎ (new ≡ with_a_turn old)

-- the writer was called once, and took so many bytes
pub record HasWritten (n : ℕ) (old new : Counts) : Type 0 where
  pub turns : new.turns ≡ count_on old.turns 1
  pub messages : new.messages ≡ old.messages
  pub bytes_out : IsAfter new.bytes_out old.bytes_out n

-- at most so many calls of devices were made, and so many messages taken
abbrev pub SpendsAtMost : ℕ → ℕ → Counts → Counts → Type 0
SpendsAtMost turns messages old new = (new.turns ≤ old.turns + turns) × (new.messages ≤ old.messages + messages)
