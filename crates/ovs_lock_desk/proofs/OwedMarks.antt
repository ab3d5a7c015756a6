-- The marks of the names of the sessions after each call on a desk.
use Rattle.std.proofs.Common.{◌≡◌, ℕ, List, [], ◌∷◌, Bool, true, false, cond, Option, Some, None, refl, sym, ap, subst, ◌∙◌, Result, Ok, Err}
use Rattle.std.specs.Prelude.{◌≢◌, ◌==◌, is_some, option_and_then, option_map, OnOk, OnErr}
use Rattle.std.proofs.lemmas.Bool.{eqb-true, eqb-false}
use Rattle.serde_json.specs.Data.{Data}
use Rattle.ovs_locks.specs.ByName.{Ascends}
use Rattle.ovs_locks.specs.BySession.{Names, Sessions, Notes, Remarks, RemarksAny, Forgets, TellsAll, names_at, mark_at, mark_in}
use Rattle.ovs_locks.proofs.ByName.{same_name}
use Rattle.ovs_locks.proofs.Gathering.{test}
use Rattle.ovs_locks.proofs.Relisting.{other_name}
use Rattle.ovs_lock_desk.specs.declared.lock_state.LockEvent.{LockEvent}
use Rattle.ovs_lock_desk.specs.declared.lock_state.LockEvent.TheVariants as events
use Rattle.ovs_lock_desk.specs.declared.lock_state.LockVerb.{LockVerb}
use Rattle.ovs_lock_desk.specs.declared.owed_marks.Near.{Near}
use Rattle.ovs_lock_desk.specs.PendingSteal.{open_session}
use Rattle.ovs_lock_desk.specs.RelayLock.{RelayLockValue, no_relay_lock, is_desk_idle, concerns, asked_here, step, enters, desk_owner, IsStolenByOne}
use Rattle.ovs_lock_desk.specs.LockDesk.{RelayLocks, ChangesAt, SendsFirst, SendsOf, AreNamed, AreMarked, relay_lock_at, stepped, first_due_up, owes_here}
use Rattle.ovs_lock_desk.specs.OwedMarks.{desk_mark, if_owed, near_of, IsApart, AreMarkedBut, AreOthersMarked, AreMarkedButOwners, MarksLosers}
use Rattle.ovs_lock_desk.specs.UpwardTable.{AreStolenByOne}
use Rattle.ovs_lock_desk.proofs.DeskOwed.{idle_is_none}
use Rattle.ovs_lock_desk.proofs.Named.{after_change, after_changes}
use Rattle.ovs_lock_desk.proofs.Names.{listed_entered, named_asked, named_each}
use Rattle.ovs_lock_desk.proofs.Stepping.{changed_here, stepped_at}
use Rattle.ovs_lock_desk.proofs.Unowed.{owed_stepped, owed_answer, owed_notice, owed_told, owed_ended, owed_apart, owed_lost, owed_asked, told_unowed, one_stepped}

-- what holds of each mark holds still once one was written, if it holds of that one
noted : (P : ℕ → List ℕ → Option Bool → Type 0) (session : ℕ) (name : List ℕ) (s t : Sessions) (v : Option Bool) → Notes s session name v t → P session name v
    → ((x : ℕ) (n : List ℕ) → (x ≡ session → n ≡ name → ⊥) → P x n (mark_at x n s)) → (x : ℕ) (n : List ℕ) → P x n (mark_at x n t)
noted P session name s t v note here others x n = by (x == session) (test name n) refl refl
  where
    by : (b c : Bool) → (x == session) ≡ b → test name n ≡ c → P x n (mark_at x n t)
    by true true e at =
        subst (λ (y : ℕ). P y n (mark_at y n t)) (sym (eqb-true x session e))
        (subst (λ (k : List ℕ). P session k (mark_at session k t)) (sym (same_name name n at)) (subst (P session name) (sym note.at) here))
    by true false e at =
        let ne = other_name name n at in
        let same : mark_at x n t ≡ mark_at x n s = subst (λ (y : ℕ). mark_at y n t ≡ mark_at y n s) (sym (eqb-true x session e)) (note.others n ne) in
        subst (P x n) (sym same) (others x n (λ f g. ne g))
    by false c e at =
        let ne = eqb-false x session e in
        subst (P x n) (sym (ap (mark_in n) (note.sessions x ne))) (others x n (λ f g. ne f))

-- ---- one lock's mark of one session was written anew

module _ (locks : RelayLocks) (name : List ℕ) where
  abbrev now : ℕ → Option Bool
  now x = desk_mark x (relay_lock_at name locks)

  pub named_remarked : (session : ℕ) (s t : Sessions) → AreNamed locks s → Remarks now session name s t → AreNamed locks t
  named_remarked session s t named is =
      noted (λ x n m. m ≡ None → concerns x (relay_lock_at n locks) ≡ false) session name s t (option_and_then (λ _. now session) (mark_at session name s)) is
      (here (mark_at session name s) refl) (λ x n ne. named x n)
    where
      of : (c b : Bool) → cond c (Some b) None ≡ None → c ≡ false
      of true b none = absurd cc
      of false b none = refl

      here : (m : Option Bool) → mark_at session name s ≡ m → option_and_then (λ _. now session) m ≡ None → concerns session (relay_lock_at name locks) ≡ false
      here None is none = named session name is
      here (Some b) is none = of (concerns session (relay_lock_at name locks)) (owes_here session (relay_lock_at name locks)) none

  marked_remarked : (IsFar : ℕ → List ℕ → Type 0) (session : ℕ) (s t : Sessions) → AreMarkedBut (λ x n. (n ≡ name → x ≢ session) × IsFar x n) locks s → Remarks now session name s t → AreMarkedBut IsFar locks t
  marked_remarked IsFar session s t marked is =
      noted (λ x n m. m ≡ Some false → IsFar x n → owes_here x (relay_lock_at n locks) ≡ false) session name s t (option_and_then (λ _. now session) (mark_at session name s)) is
      (λ m far. here (mark_at session name s) m) (λ x n ne m far. marked x n m ((λ same e. ne e same), far))
    where
      of : (c b : Bool) → cond c (Some b) None ≡ Some false → b ≡ false
      of true b e = cc
      of false b e = absurd cc

      here : (m : Option Bool) → option_and_then (λ _. now session) m ≡ Some false → owes_here session (relay_lock_at name locks) ≡ false
      here None e = absurd cc
      here (Some b) e = of (concerns session (relay_lock_at name locks)) (owes_here session (relay_lock_at name locks)) e

  -- and no mark was old before
  pub marked_still : (session : ℕ) (s t : Sessions) → AreMarked locks s → Remarks now session name s t → AreMarked locks t
  marked_still session s t marked is =
      let after = marked_remarked (λ x n. Unit {0}) session s t (λ x n m far. marked x n m) is in
      λ x n m. after x n m tt

-- ---- who is owed something for one lock was marked

-- a mark was written, if this session has the name
record Trues (o : Option ℕ) (name : List ℕ) (s t : Sessions) : Type 0 where
  names : (x : ℕ) (n : List ℕ) → mark_at x n t ≡ None → mark_at x n s ≡ None
  marks : (x : ℕ) (n : List ℕ) → mark_at x n t ≡ Some false → mark_at x n s ≡ Some false
  here : (x : ℕ) → mark_at x name t ≡ Some false → o ≢ Some x

trues : (o : Option ℕ) (name : List ℕ) (s t : Sessions) → RemarksAny (λ x. Some true) o name s t → Trues o name s t
trues None name s t is = record {
  names = λ x n none. sym (ap (mark_at x n) is) ∙ none;
  marks = λ x n m. sym (ap (mark_at x n) is) ∙ m;
  here = λ x m e. absurd cc;
}
trues (Some a) name s t is = record {
  names = noted (λ x n m. m ≡ None → mark_at x n s ≡ None) a name s t (option_and_then (λ _. Some true) (mark_at a name s)) is (gone (mark_at a name s)) (λ x n ne none. none);
  marks = noted (λ x n m. m ≡ Some false → mark_at x n s ≡ Some false) a name s t (option_and_then (λ _. Some true) (mark_at a name s)) is (λ e. absurd (never (mark_at a name s) e)) (λ x n ne m. m);
  here = λ x m e. never (mark_at a name s) (sym is.at ∙ subst (λ (y : ℕ). mark_at y name t ≡ Some false) (its x e) m);
}
  where
    its : (x : ℕ) → Some a ≡ Some x → x ≡ a
    its x e = let same : a ≡ x = cc in sym same

    gone : (o : Option Bool) → option_and_then (λ _. Some true) o ≡ None → o ≡ None
    gone None e = refl
    gone (Some b) e = absurd cc

    never : (o : Option Bool) → option_and_then (λ _. Some true) o ≡ Some false → ⊥
    never None e = absurd cc
    never (Some b) e = absurd cc

module _ (locks : RelayLocks) (name : List ℕ) where
  abbrev lock : RelayLockValue
  lock = relay_lock_at name locks

  pub named_owed : (o : Option ℕ) (s t : Sessions) → AreNamed locks s → RemarksAny (λ x. Some true) o name s t → AreNamed locks t
  named_owed o s t named is = let w = trues o name s t is in λ x n none. named x n (w.names x n none)

  marked_owed : (IsFar : ℕ → List ℕ → Type 0) (o : Option ℕ) (s t : Sessions) → AreMarkedBut (λ x n. (n ≡ name → o ≢ Some x) × IsFar x n) locks s → RemarksAny (λ x. Some true) (if_owed o lock) name s t → AreMarkedBut IsFar locks t
  marked_owed IsFar None s t marked is x n m far = marked x n (sym (ap (mark_at x n) is) ∙ m) ((λ same e. absurd cc), far)
  marked_owed IsFar (Some a) s t marked is x n m far = by (owes_here a lock) refl is
    where
      at : (b c : Bool) → owes_here a lock ≡ false → mark_at x n s ≡ Some false → (a == x) ≡ b → test name n ≡ c → owes_here x (relay_lock_at n locks) ≡ false
      at true true none was e here =
          subst (λ (k : List ℕ). owes_here x (relay_lock_at k locks) ≡ false) (sym (same_name name n here)) (subst (λ (y : ℕ). owes_here y lock ≡ false) (eqb-true a x e) none)
      at true false none was e here = marked x n was ((λ same f. other_name name n here same), far)
      at false c none was e here = marked x n was ((λ same f. eqb-false a x e (its f)), far)
        where
          its : Some a ≡ Some x → a ≡ x
          its f = cc

      by : (b : Bool) → owes_here a lock ≡ b → RemarksAny (λ x. Some true) (cond b (Some a) None) name s t → owes_here x (relay_lock_at n locks) ≡ false
      by true owed is =
          let w = trues (Some a) name s t is in
          marked x n (w.marks x n m) ((λ same e. w.here x (subst (λ (k : List ℕ). mark_at x k t ≡ Some false) same m) e), far)
      by false none is = at (a == x) (test name n) none (sym (ap (mark_at x n) is) ∙ m) refl refl

  -- those that were near, and the owner
  pub near_marked : (near : Near) (s t u v : Sessions) → AreOthersMarked near name locks s → RemarksAny (λ x. Some true) (if_owed near.owner lock) name s t → RemarksAny (λ x. Some true) (if_owed near.stealer lock) name t u
      → RemarksAny (λ x. Some true) (if_owed (desk_owner lock) lock) name u v → AreMarked locks v
  near_marked near s t u v marked first second third =
      let owner = desk_owner lock in
      let next = marked_owed (λ x n. (n ≡ name → near.stealer ≢ Some x) × ((n ≡ name → owner ≢ Some x) × Unit {0})) near.owner s t
      (λ x n m far. marked x n m (λ same. record { owner = far.0 same; stealer = far.1.0 same; next = far.1.1.0 same })) first in
      let later = marked_owed (λ x n. (n ≡ name → owner ≢ Some x) × Unit {0}) near.stealer t u next second in
      let last = marked_owed (λ x n. Unit {0}) owner u v later third in
      λ x n m. last x n m tt

  -- the owner, as the next of those whose marks may be old
  pub owner_marked : (b : Bool) (names later : Names) (s t : Sessions) → names ≡ (name, b) ∷ later → AreMarkedButOwners names locks s
      → RemarksAny (λ x. Some true) (if_owed (desk_owner lock) lock) name s t → AreMarkedButOwners later locks t
  owner_marked b names later s t is marked re =
      marked_owed (λ x n. is_some (mark_in n later) ≡ true → desk_owner (relay_lock_at n locks) ≢ Some x) (desk_owner lock) s t
      (λ x n m far. marked x n m (λ some. either x n far some (test n name) refl)) re
    where
      either : (x : ℕ) (n : List ℕ) → (n ≡ name → desk_owner lock ≢ Some x) × (is_some (mark_in n later) ≡ true → desk_owner (relay_lock_at n locks) ≢ Some x)
          → is_some (mark_in n names) ≡ true → (c : Bool) → test n name ≡ c → desk_owner (relay_lock_at n locks) ≢ Some x
      either x n far some true at = let same = same_name n name at in subst (λ (k : List ℕ). desk_owner (relay_lock_at k locks) ≢ Some x) same (far.0 (sym same))
      either x n far some false at =
          let skipped : mark_in n names ≡ mark_in n later = ap (mark_in n) is ∙ rw at refl in
          far.1 (sym (ap is_some skipped) ∙ some)

-- ---- one lock changed

marked_changed : (IsFar : ℕ → List ℕ → Type 0) (name : List ℕ) (f : RelayLockValue → RelayLockValue) (old new : RelayLocks) (s : Sessions) → Ascends old → AreMarkedBut IsFar old s → ChangesAt name f old new
    → ((x : ℕ) → IsFar x name → owes_here x (relay_lock_at name old) ≡ false → owes_here x (f (relay_lock_at name old)) ≡ false) → AreMarkedBut IsFar new s
marked_changed IsFar name f old new s ascend marked change keeps x n m far =
    after_change is_desk_idle no_relay_lock (λ l. owes_here x l ≡ false) refl n name f old new change ascend
    (λ same.
    let near = subst (IsFar x) same far in
    keeps x near (marked x name (subst (λ (k : List ℕ). mark_at x k s ≡ Some false) same m) near))
    (marked x n m far)

-- by an event that may bring something to those that are near
pub others_marked : (name : List ℕ) (event : LockEvent) (old new : RelayLocks) (s : Sessions) → Ascends old → Ascends new → IsStolenByOne (relay_lock_at name old) → AreMarked old s → ChangesAt name (step event) old new
    → AreOthersMarked (near_of (relay_lock_at name old)) name new s
others_marked name event old new s ascend ascends one marked change =
    marked_changed (λ x n. n ≡ name → IsApart (near_of (relay_lock_at name old)) x (relay_lock_at name new)) name (step event) old new s ascend (λ x n m far. marked x n m) change
    (λ x far none.
    let apart = far refl in
    owed_stepped x event (relay_lock_at name old) one apart.owner apart.stealer (subst (λ (l : RelayLockValue). desk_owner l ≢ Some x) here apart.next) none)
  where
    here : relay_lock_at name new ≡ step event (relay_lock_at name old)
    here = changed_here is_desk_idle no_relay_lock refl idle_is_none name (step event) old new change ascend ascends

-- by an event that brings nothing to anybody
marked_at : (name : List ℕ) (event : LockEvent) (old new : RelayLocks) (s : Sessions) → Ascends old → AreMarked old s → ChangesAt name (step event) old new
    → ((x : ℕ) (l : RelayLockValue) → owes_here x l ≡ false → owes_here x (step event l) ≡ false) → AreMarked new s
marked_at name event old new s ascend marked change keeps =
    let after = marked_changed (λ x n. Unit {0}) name (step event) old new s ascend (λ x n m far. marked x n m) change (λ x far none. keeps x (relay_lock_at name old) none) in
    λ x n m. after x n m tt

pub marked_answer : (session : ℕ) (name : List ℕ) (old new : RelayLocks) (s : Sessions) → Ascends old → AreMarked old s → ChangesAt name (step (events.AnswerTold session)) old new → AreMarked new s
marked_answer session name old new s ascend marked change = marked_at name (events.AnswerTold session) old new s ascend marked change (λ x l none. owed_answer x session l none)

pub marked_notice : (session : ℕ) (name : List ℕ) (old new : RelayLocks) (s : Sessions) → Ascends old → AreMarked old s → ChangesAt name (step (events.NoticeTold session)) old new → AreMarked new s
marked_notice session name old new s ascend marked change = marked_at name (events.NoticeTold session) old new s ascend marked change (λ x l none. owed_notice x session l none)

pub marked_sent : (number : ℕ) (old new : RelayLocks) (s : Sessions) → Ascends old → AreMarked old s → SendsFirst number old new → AreMarked new s
marked_sent number old new s ascend marked sends = by (first_due_up old) sends
  where
    by : (o : Option (List ℕ × LockVerb)) → SendsOf o number old new → AreMarked new s
    by None same = subst (λ (es : RelayLocks). AreMarked es s) (sym same) marked
    by (Some d) change = marked_at d.0 (events.Sent number) old new s ascend marked change (λ x l none. none)

-- ---- a session asked, or there was no memory for it

module _ (has_source : Bool) (session : ℕ) (verb : LockVerb) (id : Data) (name : List ℕ) (old new : RelayLocks) (s t : Sessions)
    (ascend : Ascends old) (note : Notes s session name (Some false) t) where
  abbrev asks : RelayLockValue → RelayLockValue
  asks = asked_here has_source session verb id

  pub named_either : {T E : Type 0} (r : Result T E) → AreNamed old s → OnOk r (ChangesAt name asks old new) → OnErr r (new ≡ old) → AreNamed new t
  named_either (Ok y) named change same = named_asked has_source session verb id name false old new s t ascend named note change
  named_either (Err e) named change same = subst (λ (es : RelayLocks). AreNamed es t) (sym same) (listed_entered concerns session name false old s t named note)

  -- its own mark may be old, and that of the owner whom it robbed
  abbrev IsFar : ℕ → List ℕ → Type 0
  IsFar x n = (n ≡ name → x ≢ session) × (n ≡ name → IsApart (near_of (relay_lock_at name old)) x (relay_lock_at name new))

  marked_entered : AreMarked old s → AreMarkedBut IsFar old t
  marked_entered marked =
      noted (λ x n m. m ≡ Some false → IsFar x n → owes_here x (relay_lock_at n old) ≡ false) session name s t (Some false) note
      (λ m far. absurd (far.0 refl refl)) (λ x n ne m far. marked x n m)

  marked_either : {T E : Type 0} (r : Result T E) → enters verb ≡ true → AreMarked old s → OnOk r (ChangesAt name asks old new) → OnErr r (new ≡ old) → AreMarkedBut IsFar new t
  marked_either (Ok y) takes marked change same =
      marked_changed IsFar name asks old new t ascend (marked_entered marked) change (λ x far none. owed_asked x has_source session verb id (relay_lock_at name old) takes ((far.1 refl).owner) none)
  marked_either (Err e) takes marked change same = λ x n m far. subst (λ (es : RelayLocks). owes_here x (relay_lock_at n es) ≡ false) (sym same) (marked_entered marked x n m far)

  pub asked_marked : {T E : Type 0} (r : Result T E) (u : Sessions) → enters verb ≡ true → AreMarked old s → OnOk r (ChangesAt name asks old new) → OnErr r (new ≡ old)
      → Remarks (λ x. desk_mark x (relay_lock_at name new)) session name t u → AreOthersMarked (near_of (relay_lock_at name old)) name new u
  asked_marked r u takes marked change same re =
      marked_remarked new name (λ x n. n ≡ name → IsApart (near_of (relay_lock_at name old)) x (relay_lock_at name new)) session t u (marked_either r takes marked change same) re

-- ---- all locks changed

marked_each : (event : LockEvent) (old new : RelayLocks) (s t : Sessions) → Ascends old → new ≡ stepped event old
    → ((x : ℕ) (n : List ℕ) → mark_at x n t ≡ Some false → owes_here x (step event (relay_lock_at n old)) ≡ false) → AreMarked new t
marked_each event old new s t ascend change keeps x n m =
    subst (λ (es : RelayLocks). owes_here x (relay_lock_at n es) ≡ false) (sym change)
    (after_changes is_desk_idle no_relay_lock (λ l. owes_here x l ≡ false) refl n (step event) old ascend (keeps x n m))

pub marked_found : (old new : RelayLocks) (s : Sessions) → Ascends old → AreMarked old s → new ≡ stepped events.Found old → AreMarked new s
marked_found old new s ascend marked change = marked_each events.Found old new s s ascend change (λ x n m. marked x n m)

pub marked_lost : (old new : RelayLocks) (s t : Sessions) → Ascends old → AreStolenByOne old → AreMarked old s → MarksLosers old s t → new ≡ stepped events.Lost old → AreMarked new t
marked_lost old new s t ascend one marked losers change =
    marked_each events.Lost old new s t ascend change
    (λ x n m. owed_lost x (relay_lock_at n old) (one n) (losers.owners x n m) (losers.stealers x n m) (marked x n (losers.marks x n m)))

pub named_lost : (old new : RelayLocks) (s t : Sessions) → Ascends old → AreNamed old s → MarksLosers old s t → new ≡ stepped events.Lost old → AreNamed new t
named_lost old new s t ascend named losers change = named_each events.Lost old new t ascend (λ x n none. named x n (losers.names x n none)) change

module _ (session : ℕ) (old new : RelayLocks) (s t : Sessions) (ascend : Ascends old) where
  pub named_told : AreNamed old s → TellsAll session s t → new ≡ stepped (events.AllTold session) old → AreNamed new t
  named_told named tells change = named_each (events.AllTold session) old new t ascend (λ x n none. named x n (was x n none (x == session) refl)) change
    where
      there : (o : Option Bool) → option_map (λ _. false) o ≡ None → o ≡ None
      there None e = refl
      there (Some b) e = absurd cc

      was : (x : ℕ) (n : List ℕ) → mark_at x n t ≡ None → (b : Bool) → (x == session) ≡ b → mark_at x n s ≡ None
      was x n none true e =
          let same = eqb-true x session e in
          subst (λ (y : ℕ). mark_at y n s ≡ None) (sym same) (there (mark_at session n s) (sym (tells.at n) ∙ subst (λ (y : ℕ). mark_at y n t ≡ None) same none))
      was x n none false e = sym (ap (mark_in n) (tells.sessions x (eqb-false x session e))) ∙ none

  pub marked_told : AreMarked old s → TellsAll session s t → new ≡ stepped (events.AllTold session) old → AreMarked new t
  marked_told marked tells change = marked_each (events.AllTold session) old new s t ascend change (λ x n m. by x n m (x == session) refl)
    where
      by : (x : ℕ) (n : List ℕ) → mark_at x n t ≡ Some false → (b : Bool) → (x == session) ≡ b → owes_here x (step (events.AllTold session) (relay_lock_at n old)) ≡ false
      by x n m true e = subst (λ (y : ℕ). owes_here y (step (events.AllTold session) (relay_lock_at n old)) ≡ false) (sym (eqb-true x session e)) (told_unowed session (relay_lock_at n old))
      by x n m false e = owed_told x session (relay_lock_at n old) (marked x n (sym (ap (mark_in n) (tells.sessions x (eqb-false x session e))) ∙ m))

  -- a session ended, and its names were taken out
  pub marked_ended : (names : Names) → AreNamed old s → AreMarked old s → names ≡ names_at session s → Forgets session s t → new ≡ stepped (events.Ended session) old → AreMarkedButOwners names new t
  marked_ended names named marked is forgets change x n m far =
      subst (λ (es : RelayLocks). owes_here x (relay_lock_at n es) ≡ false) (sym change)
      (after_changes is_desk_idle no_relay_lock (λ l. owes_here x l ≡ false) refl n (step (events.Ended session)) old ascend (by (x == session) (mark_in n names) refl refl))
    where
      here : relay_lock_at n new ≡ step (events.Ended session) (relay_lock_at n old)
      here = ap (relay_lock_at n) change ∙ stepped_at (events.Ended session) n old ascend

      gone : x ≡ session → ⊥
      gone same =
          let none : mark_at x n t ≡ None = ap (λ (y : ℕ). mark_at y n t) same ∙ ap (mark_in n) forgets.gone in
          let clash = sym m ∙ none in
          absurd cc

      by : (b : Bool) (o : Option Bool) → (x == session) ≡ b → mark_in n names ≡ o → owes_here x (step (events.Ended session) (relay_lock_at n old)) ≡ false
      by true o e there = absurd (gone (eqb-true x session e))
      by false None e there =
          let was = marked x n (sym (ap (mark_in n) (forgets.sessions x (eqb-false x session e))) ∙ m) in
          owed_apart x session (relay_lock_at n old) (named session n (sym (ap (mark_in n) is) ∙ there)) was
      by false (Some b) e there =
          let was = marked x n (sym (ap (mark_in n) (forgets.sessions x (eqb-false x session e))) ∙ m) in
          owed_ended x session (relay_lock_at n old) (subst (λ (l : RelayLockValue). desk_owner l ≢ Some x) here (far (ap is_some there))) was

pub none_old : (locks : RelayLocks) (s : Sessions) → AreMarkedButOwners [] locks s → AreMarked locks s
none_old locks s marked x n m = marked x n m (λ e. absurd cc)

-- ---- the steals of each lock are of one session

none_by_one : IsStolenByOne no_relay_lock
none_by_one x own = absurd cc

pub one_changed : (name : List ℕ) (f : RelayLockValue → RelayLockValue) (old new : RelayLocks) → Ascends old → AreStolenByOne old → ChangesAt name f old new
    → (IsStolenByOne (relay_lock_at name old) → IsStolenByOne (f (relay_lock_at name old))) → AreStolenByOne new
one_changed name f old new ascend ones change keeps q =
    after_change is_desk_idle no_relay_lock IsStolenByOne none_by_one q name f old new change ascend (λ same. keeps (ones name)) (ones q)

pub one_at : (name : List ℕ) (event : LockEvent) (old new : RelayLocks) → Ascends old → AreStolenByOne old → ChangesAt name (step event) old new → AreStolenByOne new
one_at name event old new ascend ones change = one_changed name (step event) old new ascend ones change (λ one. one_stepped event (relay_lock_at name old) one)

pub one_each : (event : LockEvent) (old new : RelayLocks) → Ascends old → AreStolenByOne old → new ≡ stepped event old → AreStolenByOne new
one_each event old new ascend ones change q =
    subst (λ (es : RelayLocks). IsStolenByOne (relay_lock_at q es)) (sym change)
    (after_changes is_desk_idle no_relay_lock IsStolenByOne none_by_one q (step event) old ascend (one_stepped event (relay_lock_at q old) (ones q)))

-- ---- who loses something with the source

-- the losers of all locks but those that are left are marked
pub record LosersBefore (locks left : RelayLocks) (s t : Sessions) : Type 0 where
  pub names : (x : ℕ) (n : List ℕ) → mark_at x n t ≡ None → mark_at x n s ≡ None
  pub marks : (x : ℕ) (n : List ℕ) → mark_at x n t ≡ Some false → mark_at x n s ≡ Some false
  pub owners : (x : ℕ) (n : List ℕ) → mark_at x n t ≡ Some false → desk_owner (relay_lock_at n left) ≢ Some x → desk_owner (relay_lock_at n locks) ≢ Some x
  pub stealers : (x : ℕ) (n : List ℕ) → mark_at x n t ≡ Some false → open_session (relay_lock_at n left).late ≢ Some x → open_session (relay_lock_at n locks).late ≢ Some x

pub losers_none : (locks : RelayLocks) (s : Sessions) → LosersBefore locks locks s s
losers_none locks s = record { names = λ x n none. none; marks = λ x n m. m; owners = λ x n m far. far; stealers = λ x n m far. far }

pub losers_more : (locks left later : RelayLocks) (name : List ℕ) (l : RelayLockValue) (s t u v : Sessions) → left ≡ (name, l) ∷ later → RemarksAny (λ x. Some true) (desk_owner l) name t u
    → RemarksAny (λ x. Some true) (open_session l.late) name u v → LosersBefore locks left s t → LosersBefore locks later s v
losers_more locks left later name l s t u v is first second before = record {
  names = λ x n none. before.names x n (a.names x n (b.names x n none));
  marks = λ x n m. before.marks x n (a.marks x n (b.marks x n m));
  owners = λ x n m far. before.owners x n (a.marks x n (b.marks x n m)) (by (λ k. desk_owner k ≢ Some x) n (λ same. a.here x (subst (λ (k : List ℕ). mark_at x k u ≡ Some false) same (b.marks x n m))) far (test n name) refl);
  stealers = λ x n m far. before.stealers x n (a.marks x n (b.marks x n m)) (by (λ k. open_session k.late ≢ Some x) n (λ same. b.here x (subst (λ (k : List ℕ). mark_at x k v ≡ Some false) same m)) far (test n name) refl);
}
  where
    a : Trues (desk_owner l) name t u
    a = trues (desk_owner l) name t u first

    b : Trues (open_session l.late) name u v
    b = trues (open_session l.late) name u v second

    by : (P : RelayLockValue → Type 0) (n : List ℕ) → (n ≡ name → P l) → P (relay_lock_at n later) → (c : Bool) → test n name ≡ c → P (relay_lock_at n left)
    by P n here rest true at =
        let found : relay_lock_at n left ≡ l = ap (relay_lock_at n) is ∙ rw at refl in
        subst P (sym found) (here (sym (same_name n name at)))
    by P n here rest false at =
        let passed : relay_lock_at n left ≡ relay_lock_at n later = ap (relay_lock_at n) is ∙ rw at refl in
        subst P (sym passed) rest

pub losers_all : (locks : RelayLocks) (s t : Sessions) → LosersBefore locks [] s t → MarksLosers locks s t
losers_all locks s t before = record {
  names = before.names;
  marks = before.marks;
  owners = λ x n m. before.owners x n m (λ e. absurd cc);
  stealers = λ x n m. before.stealers x n m (λ e. absurd cc);
}
