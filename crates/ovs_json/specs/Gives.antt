-- What a call returned, against what reading gives.
use Rattle.std.specs.Prelude.{◌≡◌, ◌≢◌, Result, Ok, Err}

-- the call returned what reading gives, seen so, unless its fault is want of memory
abbrev pub Gives : {E X Y : Type 0} → E → (X → Y) → Result X E → Result Y E → Type 0
Gives no_memory seen (Ok x) read = read ≡ Ok (seen x)
Gives no_memory seen (Err e) read = e ≢ no_memory → read ≡ Err e
