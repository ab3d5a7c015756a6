-- Steals that are answered later than they are asked for, in order of asking.
use Rattle.std.specs.Prelude.{ℕ, Bool, true, false, not, List, [], ◌∷◌, map, filter, Option, Some, None, ◌==◌, ◌&&◌, if◌then◌else◌, is_none}
use Rattle.serde_json.specs.Data.{Data}
use Rattle.ovs_lock_desk.specs.declared.pending_steal.PendingSteal.{PendingSteal}
use Rattle.ovs_lock_desk.specs.declared.pending_steal.StealOutcome.{StealOutcome}
use Rattle.ovs_lock_desk.specs.declared.pending_steal.StealOutcome.TheVariants as outcomes

-- its answer isn't known yet
abbrev pub is_open : PendingSteal → Bool
is_open e = is_none e.outcome

-- the source gave the lock for it
abbrev pub is_won : Option StealOutcome → Bool
is_won None = false
is_won (Some outcomes.Won) = true
is_won (Some outcomes.SourceLost) = false
is_won (Some outcomes.Refused) = false

abbrev pub is_of : ℕ → PendingSteal → Bool
is_of session e = e.session == session

-- a steal of this session whose answer isn't known yet
abbrev pub is_own_open : ℕ → PendingSteal → Bool
is_own_open session e = is_open e && is_of session e

-- a steal that was asked for now
abbrev pub late_of : ℕ → Data → PendingSteal
late_of session id = record { session = session; id = id; outcome = None }

abbrev pub settled_one : StealOutcome → PendingSteal → PendingSteal
settled_one outcome e = if is_open e then record { session = e.session; id = e.id; outcome = Some outcome } else e

-- those whose answer wasn't known are answered so
abbrev pub settled : StealOutcome → List PendingSteal → List PendingSteal
settled outcome late = map (settled_one outcome) late

-- its answer is known, and is owed to this session
abbrev pub is_due_late : ℕ → PendingSteal → Bool
is_due_late session e = not (is_open e) && is_of session e

-- all but those whose answer is owed to a session
abbrev pub without_due : ℕ → List PendingSteal → List PendingSteal
without_due session late = filter (λ e. not (is_due_late session e)) late

-- all but the first that passes
abbrev pub without_one : {X : Type 0} → (X → Bool) → List X → List X
without_one test [] = []
without_one test (x ∷ xs) = if test x then xs else x ∷ without_one test xs

-- all but those of a session
abbrev pub without_late : ℕ → List PendingSteal → List PendingSteal
without_late session late = filter (λ e. not (is_of session e)) late

-- the session whose steal isn't answered
abbrev pub open_session : List PendingSteal → Option ℕ
open_session [] = None
open_session (e ∷ es) = if is_open e then Some e.session else open_session es

abbrev pub is_empty_late : List PendingSteal → Bool
is_empty_late [] = true
is_empty_late (e ∷ es) = false
