-- Asserts of locks in what goes up.
use Rattle.std.specs.Prelude.{ℕ, List, ◌==◌, Bool, false, Option, Some, None, if◌then◌else◌, option_and_then, codes}
use Rattle.serde_json.specs.Data.{Data, null, boolean, number, string, array, object, put}
use Rattle.serde_json.specs.Find.{get, as_str}
use Rattle.ovs_json.specs.Parts.{is_word}
use Rattle.ovs_lock_desk.specs.RelayLock.{desk_owner}
use Rattle.ovs_lock_desk.specs.LockDesk.{RelayLocks, relay_lock_at}

abbrev pub is_owner : Option ℕ → ℕ → Bool
is_owner None session = false
is_owner (Some o) session = o == session

-- whether a session owns the lock of this name at the desk
abbrev pub owns : RelayLocks → ℕ → List ℕ → Bool
owns locks session name = is_owner (desk_owner (relay_lock_at name locks)) session

abbrev pub is_text : Option Data → List ℕ → Bool
is_text None word = false
is_text (Some d) word = is_word word d

-- the name of the lock that an operation asserts, if it is an assert
abbrev pub asserted : Data → Option (List ℕ)
asserted op = if is_text (get (codes "op") op) (codes "assert") then option_and_then as_str (get (codes "lock") op) else None

-- the lock `_none`, which no session holds, in the place of the operation's
abbrev pub put_lock : Data → Data
put_lock (object ms) = object (put (codes "lock") (string (codes "_none")) ms)
put_lock null = null
put_lock (boolean b) = boolean b
put_lock (number n) = number n
put_lock (string s) = string s
put_lock (array ds) = array ds

abbrev pub rewritten_by : Option (List ℕ) → RelayLocks → ℕ → Data → Data
rewritten_by None locks session op = op
rewritten_by (Some name) locks session op = if owns locks session name then op else put_lock op

-- an operation as it goes up: an assert of a lock that the asker doesn't own at the desk asserts `_none`
abbrev pub rewritten : RelayLocks → ℕ → Data → Data
rewritten locks session op = rewritten_by (asserted op) locks session op
