-- For which locks something is due upward after each call, and what their names tell.
use Rattle.std.proofs.Common.{◌≡◌, ℕ, List, [], ◌∷◌, ◌++◌, Bool, true, false, cond, ◌||◌, Option, Some, None, refl, sym, ap, subst, ◌∙◌}
use Rattle.std.specs.Prelude.{◌≢◌, is_some, map, option_map, slice_get, unwrap_or}
use Rattle.std.specs.Cmp.Lexicographic.{slice_cmp}
use Rattle.std.specs.List.{AllByRecursion, list_any}
use Rattle.std.specs.List.Sorted.{IsStrictlySortedBy}
use Rattle.std.specs.Map.{lookup, keys_of}
use Rattle.std.specs.Ordering.{nat_cmp}
use Rattle.std.proofs.lemmas.Map.Keys.{sorted_tail}
use Rattle.ovs_locks.specs.ByName.{Ascends, gathered}
use Rattle.ovs_locks.specs.BySession.{Names, mark_in}
use Rattle.ovs_locks.proofs.ByName.{same_name}
use Rattle.ovs_locks.proofs.Gathering.{test, own_name}
use Rattle.ovs_locks.proofs.Listed.{found}
use Rattle.ovs_locks.proofs.Relisting.{other_name}
use Rattle.ovs_locks.proofs.Tables.{apart}
use Rattle.ovs_lock_desk.specs.LockState.{is_sent, verb_due}
use Rattle.ovs_lock_desk.specs.RelayLock.{RelayLockValue, no_relay_lock, is_desk_idle, is_due_up, step, answered_so}
use Rattle.ovs_lock_desk.specs.DueNames.{DueValue, NotesDue, is_listed}
use Rattle.ovs_lock_desk.specs.LockDesk.{RelayLocks, ChangesAt, relay_lock_at, stepped, first_due_up, or_else}
use Rattle.ovs_lock_desk.specs.UpwardTable.{ListsDue, ListsOtherDue}
use Rattle.ovs_lock_desk.specs.declared.lock_state.LockState.{LockState}
use Rattle.ovs_lock_desk.specs.declared.lock_state.LockState.TheVariants.{Idle, Sent, Waiting, Held}
use Rattle.ovs_lock_desk.specs.declared.lock_state.LockEvent.{LockEvent}
use Rattle.ovs_lock_desk.specs.declared.lock_state.LockEvent.TheVariants as events
use Rattle.ovs_lock_desk.specs.declared.lock_state.LockReply.{LockReply}
use Rattle.ovs_lock_desk.specs.declared.lock_state.LockReply.TheVariants as replies
use Rattle.ovs_lock_desk.specs.declared.lock_state.LockVerb.{LockVerb}
use Rattle.ovs_lock_desk.proofs.DeskOwed.{idle_is_none}
use Rattle.ovs_lock_desk.proofs.Named.{past, names_tell}
use Rattle.ovs_lock_desk.proofs.Stepping.{changed_nowhere_else, stepped_at}
use Rattle.ovs_lock_desk.proofs.Requests.{unanswered}

-- ---- after each call

-- one lock changed
pub others_due : (name : List ℕ) (f : RelayLockValue → RelayLockValue) (old new : RelayLocks) (due : DueValue) → ListsDue old due → ChangesAt name f old new → ListsOtherDue name new due
others_due name f old new due lists change = record {
  all = λ whole other ne none. same other ne ∙ lists.all whole other none;
  only = λ other ne there. same other ne ∙ lists.only other there;
}
  where
    same : (other : List ℕ) → other ≢ name → is_due_up (relay_lock_at other new) ≡ is_due_up (relay_lock_at other old)
    same other ne = ap is_due_up (changed_nowhere_else is_desk_idle no_relay_lock refl idle_is_none name f old new change other (apart other name (λ same. ne (sym same))))

-- and its name was noted
pub noted_due : (name : List ℕ) (locks : RelayLocks) (old new : DueValue) → ListsOtherDue name locks old → NotesDue name (is_due_up (relay_lock_at name locks)) old new → ListsDue locks new
noted_due name locks old new others note = record { all = λ whole q none. all whole q none (test name q) refl; only = λ q there. only q there (test name q) refl }
  where
    NextAsk : List ℕ → Bool → Type 0
    NextAsk q b = is_due_up (relay_lock_at q locks) ≡ b

    none_here : new.is_whole ≡ true → is_listed name new ≡ false → (b : Bool) → is_due_up (relay_lock_at name locks) ≡ b → b ≡ false
    none_here whole none true is = absurd (let clash = sym (note.here whole is) ∙ none in cc)
    none_here whole none false is = refl

    some_here : is_listed name new ≡ true → (b : Bool) → is_due_up (relay_lock_at name locks) ≡ b → b ≡ true
    some_here there true is = refl
    some_here there false is = absurd (let clash = sym there ∙ note.gone is in cc)

    all : new.is_whole ≡ true → (q : List ℕ) → is_listed q new ≡ false → (b : Bool) → test name q ≡ b → is_due_up (relay_lock_at q locks) ≡ false
    all whole q none true at =
        let same = same_name name q at in
        subst (λ (k : List ℕ). is_due_up (relay_lock_at k locks) ≡ false) (sym same) (none_here whole (subst (λ (k : List ℕ). is_listed k new ≡ false) same none) (is_due_up (relay_lock_at name locks)) refl)
    all whole q none false at = let ne = other_name name q at in others.all (note.whole whole) q ne (sym (note.others q ne) ∙ none)

    only : (q : List ℕ) → is_listed q new ≡ true → (b : Bool) → test name q ≡ b → is_due_up (relay_lock_at q locks) ≡ true
    only q there true at =
        let same = same_name name q at in
        subst (λ (k : List ℕ). is_due_up (relay_lock_at k locks) ≡ true) (sym same) (some_here (subst (λ (k : List ℕ). is_listed k new ≡ true) same there) (is_due_up (relay_lock_at name locks)) refl)
    only q there false at = let ne = other_name name q at in others.only q ne (sym (note.others q ne) ∙ there)

-- all locks changed
pub due_each : (event : LockEvent) (old new : RelayLocks) (due : DueValue) → Ascends old → ListsDue old due → new ≡ stepped event old
    → ((l : RelayLockValue) → is_due_up l ≡ false → is_due_up (step event l) ≡ false) → ((l : RelayLockValue) → is_due_up l ≡ true → is_due_up (step event l) ≡ true) → ListsDue new due
due_each event old new due ascend lists change none some = record {
  all = λ whole q out. is q ∙ none (relay_lock_at q old) (lists.all whole q out);
  only = λ q there. is q ∙ some (relay_lock_at q old) (lists.only q there);
}
  where
    is : (q : List ℕ) → is_due_up (relay_lock_at q new) ≡ is_due_up (step event (relay_lock_at q old))
    is q = ap (λ (es : RelayLocks). is_due_up (relay_lock_at q es)) change ∙ ap is_due_up (stepped_at event q old ascend)

-- nothing is due where the source is lost
pub due_lost : (old new : RelayLocks) → Ascends old → new ≡ stepped events.Lost old → ListsDue new (record { is_whole = true; names = [] })
due_lost old new ascend change = record {
  all = λ whole q out. ap (λ (es : RelayLocks). is_due_up (relay_lock_at q es)) change ∙ ap is_due_up (stepped_at events.Lost q old ascend);
  only = λ q there. absurd cc;
}

-- by an answer nothing comes to be due
pub due_answered : (number : ℕ) (reply : LockReply) (l : RelayLockValue) → is_due_up l ≡ false → is_due_up (step (events.Answered number reply) l) ≡ false
due_answered number reply l none = by (is_sent number l.state) reply
  where
    by : (b : Bool) (reply : LockReply) → is_due_up (cond b (answered_so reply l) l) ≡ false
    by true replies.Given = refl
    by true replies.Waits = refl
    by true replies.Refused = refl
    by false reply = none

-- and what is due is due still
pub due_unanswered : (number : ℕ) (reply : LockReply) (l : RelayLockValue) → is_due_up l ≡ true → is_due_up (step (events.Answered number reply) l) ≡ true
due_unanswered number reply l some = ap is_due_up (unanswered number reply l (by l.state some)) ∙ some
  where
    by : (c : LockState) → is_some (verb_due c) ≡ true → is_sent number c ≡ false
    by (Idle d) e = refl
    by (Sent m) e = absurd cc
    by Waiting e = refl
    by Held e = refl

-- ---- listed anew

-- what is due is listed of all locks but those that are left
pub record ListsBefore (locks left : RelayLocks) (due : DueValue) : Type 0 where
  pub all : due.is_whole ≡ true → (name : List ℕ) → is_listed name due ≡ false → is_due_up (relay_lock_at name left) ≡ false → is_due_up (relay_lock_at name locks) ≡ false
  pub only : (name : List ℕ) → is_listed name due ≡ true → is_due_up (relay_lock_at name locks) ≡ true
  pub found : AllByRecursion (λ (e : List ℕ × RelayLockValue). relay_lock_at e.0 locks ≡ e.1) left

found_each : (locks left : RelayLocks) → AllByRecursion (λ (e : List ℕ × RelayLockValue). lookup (test e.0) locks ≡ Some e.1) left → AllByRecursion (λ (e : List ℕ × RelayLockValue). relay_lock_at e.0 locks ≡ e.1) left
found_each locks [] all = tt
found_each locks (e ∷ left) all = (ap (λ (o : Option RelayLockValue). unwrap_or o no_relay_lock) all.0, found_each locks left all.1)

-- none is listed yet
pub listed_none : (locks : RelayLocks) → Ascends locks → ListsBefore locks locks (record { is_whole = true; names = [] })
listed_none locks ascend = record { all = λ whole q out rest. rest; only = λ q there. absurd cc; found = found_each locks locks (found locks ascend) }

-- the next one has nothing due
pub listed_still : (locks left later : RelayLocks) (name : List ℕ) (l : RelayLockValue) (due : DueValue) → left ≡ (name, l) ∷ later → is_due_up l ≡ false → ListsBefore locks left due → ListsBefore locks later due
listed_still locks left later name l due is none lists = record {
  all = λ whole q out rest. lists.all whole q out (subst (λ (es : RelayLocks). is_due_up (relay_lock_at q es) ≡ false) (sym is) (by q rest (test q name)));
  only = lists.only;
  found = (subst (AllByRecursion (λ (e : List ℕ × RelayLockValue). relay_lock_at e.0 locks ≡ e.1)) is lists.found).1;
}
  where
    by : (q : List ℕ) → is_due_up (relay_lock_at q later) ≡ false → (b : Bool) → is_due_up (unwrap_or (cond b (Some l) (lookup (test q) later)) no_relay_lock) ≡ false
    by q rest true = none
    by q rest false = rest

-- or it has, and was noted
pub listed_more : (locks left later : RelayLocks) (name : List ℕ) (l : RelayLockValue) (old new : DueValue) → left ≡ (name, l) ∷ later → is_due_up l ≡ true → NotesDue name true old new → ListsBefore locks left old
    → ListsBefore locks later new
listed_more locks left later name l old new is some note lists = record { all = λ whole q out rest. all whole q out rest (test name q) refl; only = λ q there. only q there (test name q) refl; found = parts.1 }
  where
    parts : AllByRecursion (λ (e : List ℕ × RelayLockValue). relay_lock_at e.0 locks ≡ e.1) ((name, l) ∷ later)
    parts = subst (AllByRecursion (λ (e : List ℕ × RelayLockValue). relay_lock_at e.0 locks ≡ e.1)) is lists.found

    all : new.is_whole ≡ true → (q : List ℕ) → is_listed q new ≡ false → is_due_up (relay_lock_at q later) ≡ false → (b : Bool) → test name q ≡ b → is_due_up (relay_lock_at q locks) ≡ false
    all whole q out rest true at =
        let unlisted = subst (λ (k : List ℕ). is_listed k new ≡ false) (same_name name q at) out in
        absurd (let clash = sym (note.here whole refl) ∙ unlisted in cc)
    all whole q out rest false at =
        let ne = other_name name q at in
        let skipped : test q name ≡ false = apart q name (λ same. ne (sym same)) in
        lists.all (note.whole whole) q (sym (note.others q ne) ∙ out) (subst (λ (es : RelayLocks). is_due_up (relay_lock_at q es) ≡ false) (sym is) (rw skipped rest))

    only : (q : List ℕ) → is_listed q new ≡ true → (b : Bool) → test name q ≡ b → is_due_up (relay_lock_at q locks) ≡ true
    only q there true at = subst (λ (k : List ℕ). is_due_up (relay_lock_at k locks) ≡ true) (sym (same_name name q at)) (ap is_due_up parts.0 ∙ some)
    only q there false at = let ne = other_name name q at in lists.only q (sym (note.others q ne) ∙ there)

-- none is left
pub listed_all : (locks : RelayLocks) (due : DueValue) → ListsBefore locks [] due → ListsDue locks due
listed_all locks due lists = record { all = λ whole q out. lists.all whole q out refl; only = lists.only }

-- ---- what is due first

abbrev due_under : List ℕ → Option LockVerb → List (List ℕ × LockVerb)
due_under name None = []
due_under name (Some verb) = (name, verb) ∷ []

abbrev pub due_here : List ℕ → RelayLockValue → List (List ℕ × LockVerb)
due_here name l = due_under name (verb_due l.state)

first_of_all : (es : RelayLocks) → slice_get (gathered due_here es) 0 ≡ first_due_up es
first_of_all [] = refl
first_of_all (e ∷ es) = by (verb_due e.1.state) (first_of_all es)
  where
    by : (o : Option LockVerb) → slice_get (gathered due_here es) 0 ≡ first_due_up es
        → slice_get (due_under e.0 o ++ gathered due_here es) 0 ≡ or_else (option_map (λ (verb : LockVerb). let pair : List ℕ × LockVerb = (e.0, verb) in pair) o) (first_due_up es)
    by None rest = rest
    by (Some verb) rest = refl

-- what is due first of the lock of its name
pub first_due_at : (es : RelayLocks) (d : List ℕ × LockVerb) → Ascends es → first_due_up es ≡ Some d → verb_due (relay_lock_at d.0 es).state ≡ Some d.1
first_due_at [] d s first = absurd cc
first_due_at (e ∷ es) d s first = by (verb_due e.1.state) refl first (first_due_at es d (sorted_tail (slice_cmp nat_cmp) e.0 (keys_of es) s))
  where
    by : (o : Option LockVerb) → verb_due e.1.state ≡ o → or_else (option_map (λ (verb : LockVerb). let pair : List ℕ × LockVerb = (e.0, verb) in pair) o) (first_due_up es) ≡ Some d
        → (first_due_up es ≡ Some d → verb_due (relay_lock_at d.0 es).state ≡ Some d.1) → verb_due (unwrap_or (cond (test d.0 e.0) (Some e.1) (lookup (test d.0) es)) no_relay_lock).state ≡ Some d.1
    by None is later more = at (test d.0 e.0) refl
      where
        at : (b : Bool) → test d.0 e.0 ≡ b → verb_due (unwrap_or (cond b (Some e.1) (lookup (test d.0) es)) no_relay_lock).state ≡ Some d.1
        at true there =
            let nothing : verb_due (relay_lock_at d.0 es).state ≡ None = ap (λ (o : Option RelayLockValue). verb_due (unwrap_or o no_relay_lock).state) (past d.0 e es s there) in
            absurd (let clash = sym nothing ∙ more later in cc)
        at false there = more later
    by (Some verb) is here more =
        let pair : List ℕ × LockVerb = (e.0, verb) in
        let same : pair ≡ d = cc in
        let name : e.0 ≡ d.0 = ap (λ (x : List ℕ × LockVerb). x.0) same in
        let due : verb ≡ d.1 = ap (λ (x : List ℕ × LockVerb). x.1) same in
        let there : test d.0 e.0 ≡ true = subst (λ (k : List ℕ). test d.0 k ≡ true) (sym name) (own_name d.0) in
        rw there (is ∙ ap Some due)

-- ---- by the names that are listed

-- what is due for these names, in their order
abbrev pub due_of : RelayLocks → List (List ℕ) → List (List ℕ × LockVerb)
due_of locks [] = []
due_of locks (name ∷ names) = due_here name (relay_lock_at name locks) ++ due_of locks names

marked : List (List ℕ) → Names
marked names = map (λ (name : List ℕ). (name, false)) names

marked_keys : (names : List (List ℕ)) → keys_of (marked names) ≡ names
unfolding marked
marked_keys [] = refl
marked_keys (name ∷ names) = ap (λ (ks : List (List ℕ)). name ∷ ks) (marked_keys names)

unmarked : (q : List ℕ) (names : List (List ℕ)) → mark_in q (marked names) ≡ None → list_any (test q) names ≡ false
unfolding marked
unmarked q [] none = refl
unmarked q (name ∷ names) none = by (test q name) none (unmarked q names)
  where
    by : (b : Bool) → cond b (Some false) (mark_in q (marked names)) ≡ None → (mark_in q (marked names) ≡ None → list_any (test q) names ≡ false) → (b || list_any (test q) names) ≡ false
    by true n more = absurd cc
    by false n more = more n

marked_tell : (locks : RelayLocks) (names : List (List ℕ)) → gathered (λ name (b : Bool). due_here name (relay_lock_at name locks)) (marked names) ≡ due_of locks names
unfolding marked
marked_tell locks [] = refl
marked_tell locks (name ∷ names) = ap (λ (xs : List (List ℕ × LockVerb)). due_here name (relay_lock_at name locks) ++ xs) (marked_tell locks names)

nothing_due : (name : List ℕ) (l : RelayLockValue) → is_due_up l ≡ false → due_here name l ≡ []
nothing_due name l none = by (verb_due l.state) none
  where
    by : (o : Option LockVerb) → is_some o ≡ false → due_under name o ≡ []
    by None e = refl
    by (Some verb) e = absurd cc

pub due_tells : (locks : RelayLocks) (due : DueValue) → Ascends locks → IsStrictlySortedBy (slice_cmp nat_cmp) due.names → ListsDue locks due → due.is_whole ≡ true → slice_get (due_of locks due.names) 0 ≡ first_due_up locks
due_tells locks due s t lists whole =
    ap (λ (xs : List (List ℕ × LockVerb)). slice_get xs 0)
    (sym (marked_tell locks due.names)
    ∙ names_tell is_due_up no_relay_lock refl due_here nothing_due locks (marked due.names) s (subst (IsStrictlySortedBy (slice_cmp nat_cmp)) (sym (marked_keys due.names)) t)
    (λ q none. lists.all whole q (unmarked q due.names none)))
    ∙ first_of_all locks
