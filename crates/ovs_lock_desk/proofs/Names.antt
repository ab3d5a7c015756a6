-- The names of the sessions after each call on a desk, and what they tell.
use Rattle.std.proofs.Common.{◌≡◌, ℕ, List, [], ◌∷◌, ◌++◌, Bool, true, false, cond, Option, Some, None, refl, sym, ap, subst, ◌∙◌, length, ◌≤◌, arith}
use Rattle.std.specs.Prelude.{◌==◌, not, ◌&&◌, is_some, slice_get}
use Rattle.std.specs.List.{list_any}
use Rattle.std.proofs.lemmas.Bool.{eqb-true, eqb-false}
use Rattle.std.proofs.lemmas.List.{length-append}
use Rattle.serde_json.specs.Data.{Data}
use Rattle.ovs_locks.specs.declared.notice.LockNotice.{LockNotice}
use Rattle.ovs_locks.specs.ByName.{Ascends, gathered}
use Rattle.ovs_locks.specs.BySession.{Names, Sessions, Notes, Forgets, names_at, mark_at, mark_in}
use Rattle.ovs_locks.specs.Lock.{LockValue, stands, is_owed}
use Rattle.ovs_locks.proofs.ByName.{same_name}
use Rattle.ovs_locks.proofs.Gathering.{test}
use Rattle.ovs_locks.proofs.NextNotice.{lock_owes}
use Rattle.ovs_locks.proofs.Relisting.{other_name}
use Rattle.ovs_locks.proofs.Standing.{not_owed_for}
use Rattle.ovs_lock_desk.specs.declared.lock_state.LockEvent.{LockEvent}
use Rattle.ovs_lock_desk.specs.declared.lock_state.LockEvent.TheVariants as events
use Rattle.ovs_lock_desk.specs.declared.lock_state.LockVerb.{LockVerb}
use Rattle.ovs_lock_desk.specs.declared.pending_steal.PendingSteal.{PendingSteal}
use Rattle.ovs_lock_desk.specs.PendingSteal.{is_of, is_open, is_due_late}
use Rattle.ovs_lock_desk.specs.RelayLock.{RelayLockValue, no_relay_lock, is_desk_idle, concerns, asked_here, step}
use Rattle.ovs_lock_desk.specs.LockDesk.{RelayLocks, ChangesAt, SendsFirst, SendsOf, AreListed, AreNamed, relay_lock_at, stepped, first_due_up, locks_of, owes_here}
use Rattle.ovs_lock_desk.proofs.Concerned.{none_stepped, none_asked, none_ended, neither}
use Rattle.ovs_lock_desk.proofs.Named.{after_change, after_changes, names_tell}

-- ---- lists of names, by a number

module _ (test_of : ℕ → RelayLockValue → Bool) where
  abbrev pub Fails : ℕ → RelayLockValue → Type 0
  Fails x l = test_of x l ≡ false

  -- one lock changed, and all that fail for it fail still
  pub listed_at : ((x : ℕ) → Fails x no_relay_lock) → (name : List ℕ) (f : RelayLockValue → RelayLockValue) (old new : RelayLocks) (s : Sessions) → Ascends old → AreListed test_of old s → ChangesAt name f old new
      → ((x : ℕ) → mark_at x name s ≡ None → Fails x (relay_lock_at name old) → Fails x (f (relay_lock_at name old))) → AreListed test_of new s
  listed_at nothing name f old new s ascend listed change keeps x n none =
      after_change is_desk_idle no_relay_lock (Fails x) (nothing x) n name f old new change ascend
      (λ same. let here = subst (λ (k : List ℕ). mark_at x k s ≡ None) same none in keeps x here (listed x name here)) (listed x n none)

  -- all locks changed
  pub listed_each : ((x : ℕ) → Fails x no_relay_lock) → (event : LockEvent) (old new : RelayLocks) (s : Sessions) → Ascends old → AreListed test_of old s → new ≡ stepped event old
      → ((x : ℕ) (l : RelayLockValue) → Fails x l → Fails x (step event l)) → AreListed test_of new s
  listed_each nothing event old new s ascend listed change keeps x n none =
      subst (λ (es : RelayLocks). Fails x (relay_lock_at n es)) (sym change)
      (after_changes is_desk_idle no_relay_lock (Fails x) (nothing x) n (step event) old ascend (keeps x (relay_lock_at n old) (listed x n none)))

  -- all locks changed, none passes for one number any more, and its names were taken out
  pub listed_without : ((x : ℕ) → Fails x no_relay_lock) → (session : ℕ) (event : LockEvent) (old new : RelayLocks) (s t : Sessions) → Ascends old → AreListed test_of old s → new ≡ stepped event old → Forgets session s t
      → ((x : ℕ) (l : RelayLockValue) → Fails x l → Fails x (step event l)) → ((l : RelayLockValue) → Fails session (step event l)) → AreListed test_of new t
  listed_without nothing session event old new s t ascend listed change forgets keeps gone x n none = by (x == session) refl
    where
      by : (b : Bool) → (x == session) ≡ b → Fails x (relay_lock_at n new)
      by true e =
          subst (λ (y : ℕ). Fails y (relay_lock_at n new)) (sym (eqb-true x session e))
          (subst (λ (es : RelayLocks). Fails session (relay_lock_at n es)) (sym change)
          (after_changes is_desk_idle no_relay_lock (Fails session) (nothing session) n (step event) old ascend (gone (relay_lock_at n old))))
      by false e =
          listed_each nothing event old new s ascend listed change keeps x n (ap (mark_in n) (sym (forgets.sessions x (eqb-false x session e))) ∙ none)

  -- a name was entered
  pub listed_entered : (session : ℕ) (name : List ℕ) (mark : Bool) (locks : RelayLocks) (s t : Sessions) → AreListed test_of locks s → Notes s session name (Some mark) t → AreListed test_of locks t
  listed_entered session name mark locks s t listed note x n none = by (x == session) (test name n) refl refl
    where
      by : (b c : Bool) → (x == session) ≡ b → test name n ≡ c → Fails x (relay_lock_at n locks)
      by true true e at =
          let here = subst (λ (k : List ℕ). mark_at session k t ≡ None) (same_name name n at) (subst (λ (y : ℕ). mark_at y n t ≡ None) (eqb-true x session e) none) in
          absurd (let clash = sym note.at ∙ here in cc)
      by true false e at =
          let here = subst (λ (y : ℕ). mark_at y n t ≡ None) (eqb-true x session e) none in
          subst (λ (y : ℕ). Fails y (relay_lock_at n locks)) (sym (eqb-true x session e)) (listed session n (sym (note.others n (other_name name n at)) ∙ here))
      by false c e at = listed x n (ap (mark_in n) (sym (note.sessions x (eqb-false x session e))) ∙ none)

  -- a name for which the test fails was taken out
  pub listed_released : (session : ℕ) (name : List ℕ) (locks : RelayLocks) (s t : Sessions) (m : Option Bool) → AreListed test_of locks s → Fails session (relay_lock_at name locks) → Notes s session name m t → AreListed test_of locks t
  listed_released session name locks s t m listed free note x n none = by (x == session) (test name n) refl refl
    where
      by : (b c : Bool) → (x == session) ≡ b → test name n ≡ c → Fails x (relay_lock_at n locks)
      by true true e at =
          subst (λ (y : ℕ). Fails y (relay_lock_at n locks)) (sym (eqb-true x session e)) (subst (λ (k : List ℕ). Fails session (relay_lock_at k locks)) (sym (same_name name n at)) free)
      by true false e at =
          let here = subst (λ (y : ℕ). mark_at y n t ≡ None) (eqb-true x session e) none in
          subst (λ (y : ℕ). Fails y (relay_lock_at n locks)) (sym (eqb-true x session e)) (listed session n (sym (note.others n (other_name name n at)) ∙ here))
      by false c e at = listed x n (ap (mark_in n) (sym (note.sessions x (eqb-false x session e))) ∙ none)

-- ---- the names of the sessions after each call

pub named_at : (name : List ℕ) (event : LockEvent) (old new : RelayLocks) (s : Sessions) → Ascends old → AreNamed old s → ChangesAt name (step event) old new → AreNamed new s
named_at name event old new s ascend named change =
    listed_at concerns (λ x. refl) name (step event) old new s ascend named change (λ x none free. none_stepped x event (relay_lock_at name old) free)

pub named_each : (event : LockEvent) (old new : RelayLocks) (s : Sessions) → Ascends old → AreNamed old s → new ≡ stepped event old → AreNamed new s
named_each event old new s ascend named change = listed_each concerns (λ x. refl) event old new s ascend named change (λ x l free. none_stepped x event l free)

pub named_sent : (number : ℕ) (old new : RelayLocks) (s : Sessions) → Ascends old → AreNamed old s → SendsFirst number old new → AreNamed new s
named_sent number old new s ascend named sends = by (first_due_up old) sends
  where
    by : (o : Option (List ℕ × LockVerb)) → SendsOf o number old new → AreNamed new s
    by None same = subst (λ (es : RelayLocks). AreNamed es s) (sym same) named
    by (Some d) change = named_at d.0 (events.Sent number) old new s ascend named change

-- a session ended, and its names were taken out
pub named_ended : (session : ℕ) (old new : RelayLocks) (s t : Sessions) → Ascends old → AreNamed old s → new ≡ stepped (events.Ended session) old → Forgets session s t → AreNamed new t
named_ended session old new s t ascend named change forgets =
    listed_without concerns (λ x. refl) session (events.Ended session) old new s t ascend named change forgets (λ x l free. none_stepped x (events.Ended session) l free) (λ l. none_ended session l)

-- a name was entered, and its session asked
pub named_asked : (has_source : Bool) (session : ℕ) (verb : LockVerb) (id : Data) (name : List ℕ) (mark : Bool) (old new : RelayLocks) (s t : Sessions) → Ascends old → AreNamed old s
    → Notes s session name (Some mark) t → ChangesAt name (asked_here has_source session verb id) old new → AreNamed new t
named_asked has_source session verb id name mark old new s t ascend named note change =
    listed_at concerns (λ x. refl) name (asked_here has_source session verb id) old new t ascend (listed_entered concerns session name mark old s t named note) change
    (λ x none free. by x none free (x == session) refl)
  where
    by : (x : ℕ) → mark_at x name t ≡ None → concerns x (relay_lock_at name old) ≡ false → (b : Bool) → (x == session) ≡ b → concerns x (asked_here has_source session verb id (relay_lock_at name old)) ≡ false
    by x none free true e =
        let here = subst (λ (y : ℕ). mark_at y name t ≡ None) (eqb-true x session e) none in
        absurd (let clash = sym note.at ∙ here in cc)
    by x none free false e = none_asked x has_source session verb id (eqb-false x session e) (relay_lock_at name old) free

-- ---- what they tell

none_late : (session : ℕ) (late : List PendingSteal) → list_any (is_of session) late ≡ false → list_any (is_due_late session) late ≡ false
none_late session [] none = refl
none_late session (e ∷ late) none =
    let n = neither (is_of session e) (list_any (is_of session) late) none in
    rw (and_false (not (is_open e)) (is_of session e) n.0) (none_late session late n.1)
  where
    and_false : (a b : Bool) → b ≡ false → (a && b) ≡ false
    and_false true b e = e
    and_false false b e = refl

not_owed : (session : ℕ) (l : LockValue) → stands session l ≡ false → is_owed session l ≡ false
not_owed session l none = sym (lock_owes session [] l) ∙ ap (λ (xs : List LockNotice). is_some (slice_get xs 0)) (not_owed_for session [] l none)

module _ (session : ℕ) where
  -- the locks in whose lists it stands
  abbrev pub stood : List ℕ → RelayLockValue → RelayLocks
  stood name l = cond (stands session l.lock) ((name, l) ∷ []) []

  stood_all : (es : RelayLocks) → gathered stood es ≡ locks_of session es
  stood_all [] = refl
  stood_all (e ∷ es) = by (stands session e.1.lock) (stood_all es)
    where
      by : (b : Bool) → gathered stood es ≡ locks_of session es → cond b ((e.0, e.1) ∷ []) [] ++ gathered stood es ≡ cond b (e ∷ locks_of session es) (locks_of session es)
      by true rest = ap (λ (xs : RelayLocks). e ∷ xs) rest
      by false rest = rest

module _ (session : ℕ) (locks : RelayLocks) (s : Sessions) (ascend : Ascends locks) (names : Ascends (names_at session s)) (named : AreNamed locks s) where
  abbrev pub TellOf : {X : Type 0} → (List ℕ → RelayLockValue → List X) → Names → Type 0
  TellOf g ns = gathered (λ name (b : Bool). g name (relay_lock_at name locks)) ns ≡ gathered g locks

  pub tells : {X : Type 0} (g : List ℕ → RelayLockValue → List X) → ((name : List ℕ) (l : RelayLockValue) → concerns session l ≡ false → g name l ≡ []) → TellOf g (names_at session s)
  tells g silent = names_tell (concerns session) no_relay_lock refl g silent locks (names_at session s) ascend names (named session)

  pub stood_tell : gathered (λ name (b : Bool). stood session name (relay_lock_at name locks)) (names_at session s) ≡ locks_of session locks
  stood_tell =
      tells (stood session) (λ name l none. ap (λ (b : Bool). cond b ((name, l) ∷ []) []) (neither (list_any (is_of session) l.late) (stands session l.lock) none).1)
      ∙ stood_all session locks

  -- so it stands in no more than it has names of
  pub stood_few : length (locks_of session locks) ≤ length (names_at session s)
  stood_few = subst (λ (es : RelayLocks). length es ≤ length (names_at session s)) stood_tell (few (names_at session s))
    where
      one : (b : Bool) (e : List ℕ × RelayLockValue) → length (cond b (e ∷ []) []) ≤ 1
      one true e = omega arith
      one false e = omega arith

      few : (ns : Names) → length (gathered (λ name (b : Bool). stood session name (relay_lock_at name locks)) ns) ≤ length ns
      few [] = omega arith
      few (e ∷ ns) =
          let rest = few ns in
          let here = one (stands session (relay_lock_at e.0 locks).lock) (e.0, relay_lock_at e.0 locks) in
          let sum = length-append (stood session e.0 (relay_lock_at e.0 locks)) (gathered (λ name (b : Bool). stood session name (relay_lock_at name locks)) ns) in
          omega (arith, rest, here, sum)

  pub nothing_owed : (l : RelayLockValue) → concerns session l ≡ false → owes_here session l ≡ false
  nothing_owed l none =
      let n = neither (list_any (is_of session) l.late) (stands session l.lock) none in
      rw (none_late session l.late n.0, not_owed session l.lock n.1) refl
