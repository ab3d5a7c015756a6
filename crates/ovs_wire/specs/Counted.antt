-- A device with the numbers of calls on it and of their failures.
use Rattle.std.specs.Prelude.{ℕ, ◌+◌, ◌-◌, ◌^◌, ◌==◌, not, Result, Ok, Err, Bool, true, false, min}
use Rattle.std.specs.declared.io.ErrorKind.{ErrorKind}
use Rattle.std.specs.declared.io.ErrorKind.TheVariants.{Interrupted, WouldBlock, TimedOut}
use Rattle.std.specs.declared.io.Error.{Error}
use Rattle.std.specs.IoError.{error_kind}

-- a reader or writer, and what was counted of it
pub record Counting (D : Type 0) : Type 0 where
  pub device : D
  pub calls : ℕ
  pub failures : ℕ

-- a 64-bit count of one event more; the last value stays
abbrev pub one_more : ℕ → ℕ
one_more n = min (n + 1) (2 ^ 64 - 1)

-- the error says only that nothing passed in this call
abbrev pub is_passing : ErrorKind → Bool
is_passing Interrupted = true
is_passing WouldBlock = true
is_passing TimedOut = true
is_passing _ = false

-- the device failed at a read with this answer
abbrev pub is_failed_read : Result ℕ Error → Bool
is_failed_read (Ok n) = false
is_failed_read (Err e) = not (is_passing (error_kind e))

-- the device failed at a write with this answer: it took no byte, or answered an error
abbrev pub is_failed_write : Result ℕ Error → Bool
is_failed_write (Ok n) = n == 0
is_failed_write (Err e) = not (is_passing (error_kind e))
