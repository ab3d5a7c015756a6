-- Requests by the sessions that asked, and then by their numbers.
use Rattle.std.specs.Prelude.{◌≡◌, ◌==◌, ◌||◌, ◌&&◌, ℕ, List, [], ◌∷◌, Bool, false, Option, Some, None, if◌then◌else◌, nat_lt}
use Rattle.std.specs.List.{AllByRecursion, prefix_len}
use Rattle.ovs_desk.specs.declared.by_asker.ByAsker.{ByAsker}
use Rattle.ovs_desk.specs.declared.forwarded.Forwarded.{Forwarded}

abbrev pub is_before : ByAsker → ByAsker → Bool
is_before a b = nat_lt a.asker b.asker || ((a.asker == b.asker) && nat_lt a.number b.number)

abbrev pub is_same : ByAsker → ByAsker → Bool
is_same a b = (a.asker == b.asker) && (a.number == b.number)

-- whether it is this one that was found
abbrev pub is_this : ByAsker → Option ByAsker → Bool
is_this a None = false
is_this a (Some b) = is_same b a

-- none stands before one that it follows
abbrev pub InOrder : List ByAsker → Type 0
InOrder [] = Unit {0}
InOrder (a ∷ later) = AllByRecursion (λ b. is_before b a ≡ false) later × InOrder later

-- how many stand before it
abbrev pub place : ByAsker → List ByAsker → ℕ
place a list = prefix_len (λ b. is_before b a) list

-- with one more, in its place
abbrev pub put : ByAsker → List ByAsker → List ByAsker
put a [] = a ∷ []
put a (b ∷ later) = if is_before b a then b ∷ put a later else a ∷ b ∷ later

-- all but this one
abbrev pub without : ByAsker → List ByAsker → List ByAsker
without a [] = []
without a (b ∷ later) = if is_before b a then b ∷ without a later else (if is_same b a then later else b ∷ later)

-- the number of the first of an asker's
abbrev pub first_number : ℕ → List ByAsker → Option ℕ
first_number session [] = None
first_number session (a ∷ later) = if a.asker == session then Some a.number else first_number session later

abbrev pub by_asker : Forwarded → ByAsker
by_asker e = record { asker = e.asker; number = e.number }

-- the requests that pass a test, by their askers
abbrev pub listed : (Forwarded → Bool) → List Forwarded → List ByAsker
listed test [] = []
listed test (e ∷ es) = if test e then put (by_asker e) (listed test es) else listed test es
