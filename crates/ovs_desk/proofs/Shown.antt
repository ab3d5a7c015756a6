-- Runs in which answers are given only to who is shown where they stand.
use Rattle.std.proofs.Common.{◌≡◌, ◌∙◌, ℕ, List, [], ◌∷◌, ◌++◌, Bool, true, Some, None, refl, sym, subst}
use Rattle.std.specs.List.{AllByRecursion}
use Rattle.ovs_desk.specs.declared.forwarded.Forwarded.{Forwarded}
use Rattle.ovs_desk.specs.Calls.{Call, After}
use Rattle.ovs_desk.specs.Ledger.{Ledger, standing_of}
use Rattle.ovs_desk.specs.Runs.{Runs}
use Rattle.ovs_desk.specs.ShownRuns.{ShownCall, Other, Asks, AfterShown, RunsShown, calls_of, GivesShown}

-- what gave nothing changed nothing
pub without_waits : (l : Ledger) (cs : List ShownCall) (m : Ledger) → RunsShown l cs m → Runs l (calls_of cs) m
without_waits l [] m r = r
without_waits l (Other c ∷ cs) m (k, after, rest) = (k, after, without_waits k cs m rest)
without_waits l (Asks session shown None ∷ cs) m (k, same, rest) = subst (λ (x : Ledger). Runs x (calls_of cs) m) same (without_waits k cs m rest)
without_waits l (Asks session shown (Some e) ∷ cs) m (k, after, rest) = (k, after.1, without_waits k cs m rest)

given_shown : (c : ShownCall) (l k : Ledger) → AfterShown c l k → GivesShown c
given_shown (Other c) l k after = tt
given_shown (Asks session shown None) l k after = tt
given_shown (Asks session shown (Some e)) l k (first, (is, then)) = first e (sym is)

pub all_shown : (l : Ledger) (cs : List ShownCall) (m : Ledger) → RunsShown l cs m → AllByRecursion GivesShown cs
all_shown l [] m r = tt
all_shown l (c ∷ cs) m (k, after, rest) = (given_shown c l k after, all_shown k cs m rest)
