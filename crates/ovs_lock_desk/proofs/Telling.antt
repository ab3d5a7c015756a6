-- What the marked names of a session tell: all that it is owed.
use Rattle.std.proofs.Common.{◌≡◌, ℕ, List, [], ◌∷◌, ◌++◌, Bool, true, false, cond, Some, None, refl, sym, ap, ◌∙◌}
use Rattle.std.specs.Prelude.{map, filter}
use Rattle.std.specs.List.{list_any, AllByRecursion}
use Rattle.ovs_locks.specs.ByName.{Ascends, gathered}
use Rattle.ovs_locks.specs.BySession.{Names, Sessions, names_at, mark_in, is_some_owed, owed_names}
use Rattle.ovs_locks.specs.Lock.{is_owed}
use Rattle.ovs_locks.proofs.Listed.{found}
use Rattle.ovs_locks.proofs.NextNotice.{lock_owes, nothing_first}
use Rattle.ovs_lock_desk.specs.declared.pending_steal.PendingSteal.{PendingSteal}
use Rattle.ovs_lock_desk.specs.PendingSteal.{is_due_late}
use Rattle.ovs_lock_desk.specs.RelayLock.{RelayLockValue}
use Rattle.ovs_lock_desk.specs.LockDesk.{RelayLocks, AreNamed, AreMarked, relay_lock_at, owes_here, answers_here, answers_to, notices_here, notices_to}
use Rattle.ovs_lock_desk.proofs.Concerned.{neither}
use Rattle.ovs_lock_desk.proofs.Names.{tells, nothing_owed}

-- what a name tells, where it is marked
abbrev pub marked : {X : Type 0} → (List ℕ → RelayLockValue → List X) → RelayLocks → List ℕ → Bool → List X
marked g locks name b = cond b (g name (relay_lock_at name locks)) []

-- where none is marked they tell nothing
none_told : {X : Type 0} (g : List ℕ → RelayLockValue → List X) (locks : RelayLocks) (names : Names) → is_some_owed names ≡ false → gathered (marked g locks) names ≡ []
none_told g locks [] none = refl
none_told g locks (e ∷ names) none =
    let n = neither e.1 (is_some_owed names) none in
    rw n.0 (none_told g locks names n.1)

-- the next of the names
pub told_next : {X : Type 0} (g : List ℕ → RelayLockValue → List X) (locks : RelayLocks) (name : List ℕ) (b c : Bool) (names later : Names) (all : List X) → names ≡ (name, b) ∷ later → b ≡ c → gathered (marked g locks) names ≡ all
    → marked g locks name c ++ gathered (marked g locks) later ≡ all
told_next {X} g locks name b c names later all step is told =
    ap (λ (d : Bool). marked g locks name d ++ gathered (marked g locks) later) (sym is) ∙ sym (ap (gathered (marked g locks)) step) ∙ told

module _ (session : ℕ) (locks : RelayLocks) (s : Sessions) (ascend : Ascends locks) (names : Ascends (names_at session s)) (named : AreNamed locks s) (marks : AreMarked locks s) where
  module _ {X : Type 0} (g : List ℕ → RelayLockValue → List X) (silent : (name : List ℕ) (l : RelayLockValue) → owes_here session l ≡ false → g name l ≡ []) where
    only_marked : (ns : Names) → AllByRecursion (λ (e : List ℕ × Bool). mark_in e.0 (names_at session s) ≡ Some e.1) ns
        → gathered (marked g locks) ns ≡ gathered (λ name (b : Bool). g name (relay_lock_at name locks)) ns
    only_marked [] all = refl
    only_marked (e ∷ ns) all = by e.1 refl (only_marked ns all.1)
      where
        told : Names → List X
        told ns = gathered (λ name (b : Bool). g name (relay_lock_at name locks)) ns

        by : (b : Bool) → e.1 ≡ b → gathered (marked g locks) ns ≡ gathered (λ name (b : Bool). g name (relay_lock_at name locks)) ns
            → marked g locks e.0 b ++ gathered (marked g locks) ns ≡ g e.0 (relay_lock_at e.0 locks) ++ gathered (λ name (b : Bool). g name (relay_lock_at name locks)) ns
        by true is rest = ap (λ (xs : List X). g e.0 (relay_lock_at e.0 locks) ++ xs) rest
        by false is rest =
            rest ∙ ap (λ (xs : List X). xs ++ gathered (λ name (b : Bool). g name (relay_lock_at name locks)) ns) (sym (silent e.0 (relay_lock_at e.0 locks) (marks session e.0 (all.0 ∙ ap Some is))))

    whole : gathered (marked g locks) (names_at session s) ≡ gathered g locks
    whole =
        only_marked (names_at session s) (found (names_at session s) names)
        ∙ tells session locks s ascend names named g (λ name l none. silent name l (nothing_owed session locks s ascend names named l none))

    pub tell_all : (ns : Names) → Some ns ≡ owed_names session s → gathered (marked g locks) ns ≡ gathered g locks
    tell_all ns is = ap (gathered (marked g locks)) (by (is_some_owed (names_at session s)) is) ∙ whole
      where
        by : (b : Bool) → Some ns ≡ cond b (Some (names_at session s)) None → ns ≡ names_at session s
        by true e = cc
        by false e = absurd cc

    pub tell_nothing : None ≡ owed_names session s → [] ≡ gathered g locks
    tell_nothing is = sym (none_told g locks (names_at session s) (by (is_some_owed (names_at session s)) is)) ∙ whole
      where
        by : (b : Bool) → None ≡ cond b (Some (names_at session s)) None → b ≡ false
        by true e = absurd cc
        by false e = refl

  no_answers : (name : List ℕ) (l : RelayLockValue) → owes_here session l ≡ false → answers_here session name l ≡ []
  no_answers name l none = ap (map (λ late. (name, late))) (of l.late (neither (list_any (is_due_late session) l.late) (is_owed session l.lock) none).0)
    where
      of : (late : List PendingSteal) → list_any (is_due_late session) late ≡ false → filter (is_due_late session) late ≡ []
      of [] e = refl
      of (z ∷ late) e = let n = neither (is_due_late session z) (list_any (is_due_late session) late) e in rw n.0 (of late n.1)

  no_notices : (name : List ℕ) (l : RelayLockValue) → owes_here session l ≡ false → notices_here session name l ≡ []
  no_notices name l none = nothing_first (notices_here session name l) (lock_owes session name l.lock ∙ (neither (list_any (is_due_late session) l.late) (is_owed session l.lock) none).1)

  pub answers_told : (ns : Names) → Some ns ≡ owed_names session s → gathered (marked (answers_here session) locks) ns ≡ answers_to session locks
  answers_told ns is = tell_all (answers_here session) no_answers ns is

  pub answers_none : None ≡ owed_names session s → [] ≡ answers_to session locks
  answers_none is = tell_nothing (answers_here session) no_answers is

  pub notices_told : (ns : Names) → Some ns ≡ owed_names session s → gathered (marked (notices_here session) locks) ns ≡ notices_to session locks
  notices_told ns is = tell_all (notices_here session) no_notices ns is

  pub notices_none : None ≡ owed_names session s → [] ≡ notices_to session locks
  notices_none is = tell_nothing (notices_here session) no_notices is
