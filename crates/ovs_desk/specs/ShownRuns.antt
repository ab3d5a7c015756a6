-- Lists of calls in which answers are given only to who is shown where they stand.
use Rattle.std.specs.Prelude.{◌≡◌, ◌++◌, ℕ, List, [], ◌∷◌, Bool, true, Option, Some, None, option_map, ⊤}
use Rattle.std.specs.Option.{ForSome}
use Rattle.ovs_desk.specs.declared.forwarded.Forwarded.{Forwarded}
use Rattle.ovs_desk.specs.Calls.{Call, Collects, After}
use Rattle.ovs_desk.specs.Ledger.{Ledger, standing_of, due_to}

-- a call; or a session that is shown these ids is to be given the answer that is due to it first, and is given this
pub data ShownCall : Type 0 where
  Other : Call → ShownCall
  Asks : ℕ → (ℕ → Bool) → Option Forwarded → ShownCall

-- where the first that is due stands is shown
abbrev pub IsShownFirst : ℕ → (ℕ → Bool) → Ledger → Type 0
IsShownFirst session shown l = ForSome (due_to session l) (λ e. shown (standing_of e) ≡ true)

-- nothing is given and nothing is changed, or what is due first, whose standing is shown
abbrev pub AfterShown : ShownCall → Ledger → Ledger → Type 0
AfterShown (Other c) l m = After c l m
AfterShown (Asks session shown None) l m = m ≡ l
AfterShown (Asks session shown (Some e)) l m = IsShownFirst session shown l × After (Collects session (Some e)) l m

abbrev pub RunsShown : Ledger → List ShownCall → Ledger → Type 0
RunsShown l [] m = m ≡ l
RunsShown l (c ∷ cs) m = (k : Ledger) × AfterShown c l k × RunsShown k cs m

-- the calls, without those that gave nothing to who asked
abbrev pub calls_in : ShownCall → List Call
calls_in (Other c) = c ∷ []
calls_in (Asks session shown None) = []
calls_in (Asks session shown (Some e)) = Collects session (Some e) ∷ []

abbrev pub calls_of : List ShownCall → List Call
calls_of [] = []
calls_of (c ∷ cs) = calls_in c ++ calls_of cs

-- what is given to a session stands where it is shown
abbrev pub GivesShown : ShownCall → Type 0
GivesShown (Other c) = ⊤
GivesShown (Asks session shown None) = ⊤
GivesShown (Asks session shown (Some e)) = shown (standing_of e) ≡ true
