-- Which requests are open after each call.
use Rattle.std.proofs.Common.{◌≡◌, ℕ, List, [], ◌∷◌, ◌++◌, Bool, true, false, cond, ◌||◌, Option, Some, None, refl, sym, ap, subst, ◌∙◌}
use Rattle.std.specs.Prelude.{◌≢◌, ◌==◌, is_some, option_and_then, slice_get}
use Rattle.std.proofs.lemmas.Bool.{eqb-true, eqb-false, eq-eqb, ne_eqb}
use Rattle.serde_json.specs.Data.{Data}
use Rattle.ovs_locks.specs.ByName.{Ascends, gathered}
use Rattle.ovs_locks.specs.BySession.{Names, Sessions, Notes, Forgets, names_at, mark_in, mark_at}
use Rattle.ovs_locks.specs.Lock.{is_free, robbed_first}
use Rattle.ovs_locks.proofs.ByName.{same_name}
use Rattle.ovs_locks.proofs.Gathering.{test}
use Rattle.ovs_locks.proofs.Relisting.{other_name}
use Rattle.ovs_lock_desk.specs.LockState.{is_held, is_sent, asks_nothing, open_number, verb_due, state_as_lock, state_given_up, state_locked, state_stolen, state_sent}
use Rattle.ovs_lock_desk.specs.RelayLock.{RelayLockValue, no_relay_lock, is_desk_idle, IsSettled, MayHappen, step, asked_here, own_steal_open, left, answered_so, granted_in, asked_again}
use Rattle.ovs_lock_desk.specs.LockDesk.{RelayLocks, ChangesAt, relay_lock_at, stepped, is_sent_at}
use Rattle.ovs_lock_desk.specs.UpwardTable.{AreRequested, AreOpen, OthersOpen, AreSettled, Opens, is_open_under}
use Rattle.ovs_lock_desk.specs.declared.lock_state.LockState.{LockState}
use Rattle.ovs_lock_desk.specs.declared.lock_state.LockState.TheVariants.{Idle, Sent, Waiting, Held}
use Rattle.ovs_lock_desk.specs.declared.lock_state.NextAsk.TheVariants as due
use Rattle.ovs_lock_desk.specs.declared.lock_state.LockEvent.{LockEvent}
use Rattle.ovs_lock_desk.specs.declared.lock_state.LockEvent.TheVariants as events
use Rattle.ovs_lock_desk.specs.declared.lock_state.LockReply.{LockReply}
use Rattle.ovs_lock_desk.specs.declared.lock_state.LockReply.TheVariants as replies
use Rattle.ovs_lock_desk.specs.declared.lock_state.LockVerb.{LockVerb}
use Rattle.ovs_lock_desk.specs.declared.lock_state.LockVerb.TheVariants as verbs
use Rattle.ovs_lock_desk.proofs.Named.{after_changes, names_tell}
use Rattle.ovs_lock_desk.proofs.DeskOwed.{idle_is_none}
use Rattle.ovs_lock_desk.proofs.Stepping.{changed_here, changed_nowhere_else, stepped_at}
use Rattle.ovs_lock_desk.proofs.Names.{listed_at, listed_each, listed_without, listed_entered}

-- ---- one lock

module _ (n : ℕ) where
  given_up_unsent : (c : LockState) → is_sent n (state_given_up c) ≡ false
  given_up_unsent (Idle d) = refl
  given_up_unsent (Sent m) = refl
  given_up_unsent Waiting = refl
  given_up_unsent Held = refl

  left_unsent : (free : Bool) (c : LockState) → is_sent n c ≡ false → is_sent n (cond free (state_given_up c) c) ≡ false
  left_unsent true c none = given_up_unsent c
  left_unsent false c none = none

  as_lock_unsent : (own : Bool) (c : LockState) → is_sent n c ≡ false → is_sent n (cond own (state_as_lock c) c) ≡ false
  as_lock_unsent false c none = none
  as_lock_unsent true (Idle d) none = refl
  as_lock_unsent true (Sent m) none = none
  as_lock_unsent true Waiting none = refl
  as_lock_unsent true Held none = refl

  locked_unsent : (has_source : Bool) (c : LockState) → is_sent n c ≡ false → is_sent n (cond has_source (state_locked c) c) ≡ false
  locked_unsent false c none = none
  locked_unsent true (Idle d) none = refl
  locked_unsent true (Sent m) none = none
  locked_unsent true Waiting none = refl
  locked_unsent true Held none = refl

  stolen_unsent : (c : LockState) → is_sent n (state_stolen c) ≡ false
  stolen_unsent (Idle d) = refl
  stolen_unsent (Sent m) = refl
  stolen_unsent Waiting = refl
  stolen_unsent Held = refl

  unsent : (event : LockEvent) (l : RelayLockValue) → MayHappen event l → is_open_under n l ≡ false → is_open_under n (step event l) ≡ false
  unsent (events.Unlocked session) l may none = left_unsent (is_free (left session l.state l.lock).queue) l.state none
  unsent (events.Sent m) l may none = absurd may
  unsent (events.Answered m reply) l may none = by (is_sent m l.state) reply
    where
      by : (b : Bool) (reply : LockReply) → is_open_under n (cond b (answered_so reply l) l) ≡ false
      by true replies.Given = refl
      by true replies.Waits = refl
      by true replies.Refused = refl
      by false reply = none
  unsent events.Granted l may none = by l.state
    where
      by : (c : LockState) → is_open_under n (granted_in c l) ≡ false
      by (Idle d) = none
      by (Sent m) = none
      by Waiting = refl
      by Held = none
  unsent events.Stolen l may none = by (is_held l.state)
    where
      by : (b : Bool) → is_open_under n (cond b (record { lock = robbed_first l.lock; late = l.late; state = asked_again (robbed_first l.lock) }) l) ≡ false
      by true = refl
      by false = none
  unsent events.Lost l may none = refl
  unsent events.Found l may none = by (is_free l.lock.queue)
    where
      by : (b : Bool) → is_sent n (cond b l.state (Idle due.Lock)) ≡ false
      by true = none
      by false = refl
  unsent (events.Ended session) l may none = by (own_steal_open session l)
    where
      by : (b : Bool) → is_sent n (cond (is_free (left session (cond b (state_as_lock l.state) l.state) l.lock).queue) (state_given_up (cond b (state_as_lock l.state) l.state)) (cond b (state_as_lock l.state) l.state)) ≡ false
      by b = left_unsent (is_free (left session (cond b (state_as_lock l.state) l.state) l.lock).queue) (cond b (state_as_lock l.state) l.state) (as_lock_unsent b l.state none)
  unsent (events.AnswerTold session) l may none = none
  unsent (events.NoticeTold session) l may none = none
  unsent (events.AllTold session) l may none = none

  unsent_asked : (has_source : Bool) (session : ℕ) (verb : LockVerb) (id : Data) (l : RelayLockValue) → is_open_under n l ≡ false → is_open_under n (asked_here has_source session verb id l) ≡ false
  unsent_asked has_source session verbs.Lock id l none = locked_unsent has_source l.state none
  unsent_asked has_source session verbs.Steal id l none = by (is_held l.state) refl
    where
      by : (b : Bool) → is_held l.state ≡ b → is_open_under n (asked_here has_source session verbs.Steal id l) ≡ false
      by true is = rw is none
      by false is = rw is (stolen_unsent l.state)
  unsent_asked has_source session verbs.Unlock id l none = left_unsent (is_free (left session l.state l.lock).queue) l.state none

  -- an answered request isn't open
  answered_unsent : (reply : LockReply) (l : RelayLockValue) → is_open_under n (step (events.Answered n reply) l) ≡ false
  answered_unsent reply l = by (is_sent n l.state) reply refl
    where
      by : (b : Bool) (reply : LockReply) → is_sent n l.state ≡ b → is_open_under n (cond b (answered_so reply l) l) ≡ false
      by true replies.Given is = refl
      by true replies.Waits is = refl
      by true replies.Refused is = refl
      by false reply is = is

  -- an answer makes nothing of a lock whose request isn't open under its number
  pub unanswered : (reply : LockReply) (l : RelayLockValue) → is_open_under n l ≡ false → step (events.Answered n reply) l ≡ l
  unanswered reply l none = rw none refl

-- where there is a source again nothing was asked of it yet
found_unsent : (n : ℕ) (l : RelayLockValue) → IsSettled l → is_open_under n (step events.Found l) ≡ false
found_unsent n l settled = by (is_free l.lock.queue) refl
  where
    nothing : (c : LockState) → asks_nothing c ≡ true → is_sent n c ≡ false
    nothing (Idle d) is = refl
    nothing (Sent m) is = absurd cc
    nothing Waiting is = refl
    nothing Held is = refl

    by : (b : Bool) → is_free l.lock.queue ≡ b → is_sent n (cond b l.state (Idle due.Lock)) ≡ false
    by true is = nothing l.state (settled.free is)
    by false is = refl

-- what goes up under a number is open under this alone, and an Unlock under none
sent_only : (number n : ℕ) (c : LockState) → ((number == n) ≡ false) → is_sent n c ≡ false → is_sent n (state_sent number c) ≡ false
sent_only number n (Idle due.Nothing) other none = refl
sent_only number n (Idle due.Lock) other none = other
sent_only number n (Idle due.Steal) other none = other
sent_only number n (Idle due.Unlock) other none = refl
sent_only number n (Idle due.UnlockLock) other none = refl
sent_only number n (Idle due.UnlockSteal) other none = refl
sent_only number n (Sent m) other none = none
sent_only number n Waiting other none = refl
sent_only number n Held other none = refl

unlock_sent : (number n : ℕ) (c : LockState) → verb_due c ≡ Some verbs.Unlock → is_sent n (state_sent number c) ≡ false
unlock_sent number n (Idle due.Nothing) is = refl
unlock_sent number n (Idle due.Lock) is = absurd cc
unlock_sent number n (Idle due.Steal) is = absurd cc
unlock_sent number n (Idle due.Unlock) is = refl
unlock_sent number n (Idle due.UnlockLock) is = refl
unlock_sent number n (Idle due.UnlockSteal) is = refl
unlock_sent number n (Sent m) is = absurd cc
unlock_sent number n Waiting is = refl
unlock_sent number n Held is = refl

-- ---- the locks by name

pub requested_at : (name : List ℕ) (event : LockEvent) (old new : RelayLocks) (s : Sessions) → Ascends old → AreRequested old s → MayHappen event (relay_lock_at name old) → ChangesAt name (step event) old new
    → AreRequested new s
requested_at name event old new s ascend requested may change =
    listed_at is_open_under (λ x. refl) name (step event) old new s ascend requested change (λ x none shut. unsent x event (relay_lock_at name old) may shut)

pub requested_asked : (has_source : Bool) (session : ℕ) (verb : LockVerb) (id : Data) (name : List ℕ) (old new : RelayLocks) (s : Sessions) → Ascends old → AreRequested old s
    → ChangesAt name (asked_here has_source session verb id) old new → AreRequested new s
requested_asked has_source session verb id name old new s ascend requested change =
    listed_at is_open_under (λ x. refl) name (asked_here has_source session verb id) old new s ascend requested change (λ x none shut. unsent_asked x has_source session verb id (relay_lock_at name old) shut)

pub requested_each : (event : LockEvent) (old new : RelayLocks) (s : Sessions) → Ascends old → AreRequested old s → ((l : RelayLockValue) → MayHappen event l) → new ≡ stepped event old → AreRequested new s
requested_each event old new s ascend requested may change = listed_each is_open_under (λ x. refl) event old new s ascend requested change (λ x l shut. unsent x event l (may l) shut)

-- where the source is lost no request is open
pub requested_lost : (old new : RelayLocks) (s : Sessions) → Ascends old → new ≡ stepped events.Lost old → AreRequested new s
requested_lost old new s ascend change x q none =
    subst (λ (es : RelayLocks). is_open_under x (relay_lock_at q es) ≡ false) (sym change)
    (after_changes is_desk_idle no_relay_lock (λ l. is_open_under x l ≡ false) refl q (step events.Lost) old ascend refl)

pub requested_answered : (number : ℕ) (reply : LockReply) (old new : RelayLocks) (s t : Sessions) → Ascends old → AreRequested old s → new ≡ stepped (events.Answered number reply) old → Forgets number s t → AreRequested new t
requested_answered number reply old new s t ascend requested change forgets =
    listed_without is_open_under (λ x. refl) number (events.Answered number reply) old new s t ascend requested change forgets
    (λ x l shut. unsent x (events.Answered number reply) l tt shut) (λ l. answered_unsent number reply l)

-- a Lock or Steal went up, under a number that has its name
pub requested_sent : (number : ℕ) (name : List ℕ) (mark : Bool) (old new : RelayLocks) (s t : Sessions) → Ascends old → AreRequested old s → Notes s number name (Some mark) t
    → ChangesAt name (step (events.Sent number)) old new → AreRequested new t
requested_sent number name mark old new s t ascend requested note change =
    listed_at is_open_under (λ x. refl) name (step (events.Sent number)) old new t ascend (listed_entered is_open_under number name mark old s t requested note) change
    (λ x none shut. by x none shut (x == number) refl)
  where
    by : (x : ℕ) → mark_at x name t ≡ None → is_open_under x (relay_lock_at name old) ≡ false → (b : Bool) → (x == number) ≡ b → is_open_under x (step (events.Sent number) (relay_lock_at name old)) ≡ false
    by x none shut true e =
        let here = subst (λ (y : ℕ). mark_at y name t ≡ None) (eqb-true x number e) none in
        absurd (let clash = sym note.at ∙ here in cc)
    by x none shut false e = sent_only number x (relay_lock_at name old).state (ne_eqb number x (λ same. eqb-false x number e (sym same))) shut

-- an Unlock went up
pub requested_unlocked : (number : ℕ) (name : List ℕ) (old new : RelayLocks) (s : Sessions) → Ascends old → AreRequested old s → verb_due (relay_lock_at name old).state ≡ Some verbs.Unlock
    → ChangesAt name (step (events.Sent number)) old new → AreRequested new s
requested_unlocked number name old new s ascend requested due change =
    listed_at is_open_under (λ x. refl) name (step (events.Sent number)) old new s ascend requested change (λ x none shut. unlock_sent number x (relay_lock_at name old).state due)

-- what is due first went up
pub requested_opened : (verb : LockVerb) (number : ℕ) (name : List ℕ) (old new : RelayLocks) (s t : Sessions) → Ascends old → AreRequested old s → verb_due (relay_lock_at name old).state ≡ Some verb
    → Opens verb number name s t → ChangesAt name (step (events.Sent number)) old new → AreRequested new t
requested_opened verbs.Lock number name old new s t ascend requested due opens change = requested_sent number name false old new s t ascend requested opens change
requested_opened verbs.Steal number name old new s t ascend requested due opens change = requested_sent number name false old new s t ascend requested opens change
requested_opened verbs.Unlock number name old new s t ascend requested due opens change =
    subst (AreRequested new) (sym opens) (requested_unlocked number name old new s ascend requested due change)

-- nothing is asked for where there is a source again
pub requested_found : (old new : RelayLocks) (s : Sessions) → Ascends old → AreSettled old → new ≡ stepped events.Found old → AreRequested new s
requested_found old new s ascend settled change x q none =
    subst (λ (es : RelayLocks). is_open_under x (relay_lock_at q es) ≡ false) (sym change)
    (after_changes is_desk_idle no_relay_lock (λ l. is_open_under x l ≡ false) refl q (step events.Found) old ascend (found_unsent x (relay_lock_at q old) (settled q)))

-- ---- and no others are listed

open_number_of : (n : ℕ) (c : LockState) → is_sent n c ≡ true → open_number c ≡ Some n
open_number_of n (Idle d) is = absurd cc
open_number_of n (Sent m) is = ap Some (eqb-true m n is)
open_number_of n Waiting is = absurd cc
open_number_of n Held is = absurd cc

sent_not_due : (n : ℕ) (verb : LockVerb) (c : LockState) → is_sent n c ≡ true → verb_due c ≡ Some verb → ⊥
sent_not_due n verb (Idle d) is due = absurd cc
sent_not_due n verb (Sent m) is due = absurd cc
sent_not_due n verb Waiting is due = absurd cc
sent_not_due n verb Held is due = absurd cc

sent_alone : (number n : ℕ) (c : LockState) → n ≢ number → is_sent n c ≡ true → is_sent number c ≡ false
sent_alone number n (Idle d) apart is = refl
sent_alone number n (Sent m) apart is = ne_eqb m number (λ same. apart (sym (eqb-true m n is) ∙ same))
sent_alone number n Waiting apart is = refl
sent_alone number n Held apart is = refl

lock_sent : (number : ℕ) (c : LockState) → verb_due c ≡ Some verbs.Lock → is_sent number (state_sent number c) ≡ true
lock_sent number (Idle due.Nothing) is = absurd cc
lock_sent number (Idle due.Lock) is = eq-eqb number number refl
lock_sent number (Idle due.Steal) is = absurd cc
lock_sent number (Idle due.Unlock) is = absurd cc
lock_sent number (Idle due.UnlockLock) is = absurd cc
lock_sent number (Idle due.UnlockSteal) is = absurd cc
lock_sent number (Sent m) is = absurd cc
lock_sent number Waiting is = absurd cc
lock_sent number Held is = absurd cc

steal_sent : (number : ℕ) (c : LockState) → verb_due c ≡ Some verbs.Steal → is_sent number (state_sent number c) ≡ true
steal_sent number (Idle due.Nothing) is = absurd cc
steal_sent number (Idle due.Lock) is = absurd cc
steal_sent number (Idle due.Steal) is = eq-eqb number number refl
steal_sent number (Idle due.Unlock) is = absurd cc
steal_sent number (Idle due.UnlockLock) is = absurd cc
steal_sent number (Idle due.UnlockSteal) is = absurd cc
steal_sent number (Sent m) is = absurd cc
steal_sent number Waiting is = absurd cc
steal_sent number Held is = absurd cc

no_mark : (o : Option Bool) → is_some o ≡ true → o ≡ None → ⊥
no_mark None some none = absurd cc
no_mark (Some b) some none = absurd cc

pub open_nothing : (locks : RelayLocks) → AreOpen locks []
open_nothing locks n q listed = absurd cc

-- one lock changed
pub others_open : (name : List ℕ) (f : RelayLockValue → RelayLockValue) (old new : RelayLocks) (s : Sessions) → AreOpen old s → ChangesAt name f old new
    → OthersOpen (open_number (relay_lock_at name old).state) name new s
others_open name f old new s opens change n q listed out = by (test q name) refl
  where
    by : (b : Bool) → test q name ≡ b → (q ≡ name) × (open_number (relay_lock_at name old).state ≡ Some n)
    by true at =
        let same : q ≡ name = sym (same_name q name at) in
        (same, open_number_of n (relay_lock_at name old).state (subst (λ (k : List ℕ). is_open_under n (relay_lock_at k old) ≡ true) same (opens n q listed)))
    by false at =
        let still = changed_nowhere_else is_desk_idle no_relay_lock refl idle_is_none name f old new change q at in
        absurd (let clash = sym (opens n q listed) ∙ ap (is_open_under n) (sym still) ∙ out in cc)

-- its request, if there was one, is still open
pub open_unchanged : (name : List ℕ) (locks : RelayLocks) (s : Sessions) → OthersOpen None name locks s → AreOpen locks s
open_unchanged name locks s others n q listed = by (is_open_under n (relay_lock_at q locks)) refl
  where
    by : (b : Bool) → is_open_under n (relay_lock_at q locks) ≡ b → b ≡ true
    by true is = refl
    by false is = absurd (let clash = (others n q listed is).1 in cc)

pub open_still : (m : ℕ) (name : List ℕ) (locks : RelayLocks) (s : Sessions) → OthersOpen (Some m) name locks s → is_open_under m (relay_lock_at name locks) ≡ true → AreOpen locks s
open_still m name locks s others still n q listed = by (is_open_under n (relay_lock_at q locks)) refl
  where
    by : (b : Bool) → is_open_under n (relay_lock_at q locks) ≡ b → b ≡ true
    by true is = refl
    by false is =
        let o = others n q listed is in
        let number : Some m ≡ Some n = o.1 in
        let same : m ≡ n = cc in
        let here : is_open_under m (relay_lock_at name locks) ≡ false = subst (λ (k : List ℕ). is_open_under m (relay_lock_at k locks) ≡ false) o.0 (subst (λ (y : ℕ). is_open_under y (relay_lock_at q locks) ≡ false) (sym same) is) in
        absurd (let clash = sym still ∙ here in cc)

-- or it was taken out
pub open_closed : (m : ℕ) (name : List ℕ) (locks : RelayLocks) (s t : Sessions) → OthersOpen (Some m) name locks s → Notes s m name (option_and_then (λ _. None) (mark_at m name s)) t → AreOpen locks t
open_closed m name locks s t others note n q listed = by (n == m) (test name q) refl refl
  where
    none : (o v : Option Bool) → v ≡ None → option_and_then (λ _. v) o ≡ None
    none None v is = refl
    none (Some b) v is = is

    other : is_some (mark_at n q s) ≡ true → ((q ≡ name) × (Some m ≡ Some n) → ⊥) → (b : Bool) → is_open_under n (relay_lock_at q locks) ≡ b → b ≡ true
    other there apart true is = refl
    other there apart false is = absurd (apart (others n q there is))

    by : (b c : Bool) → (n == m) ≡ b → test name q ≡ c → is_open_under n (relay_lock_at q locks) ≡ true
    by true true e at =
        let here : is_some (mark_at m name t) ≡ true = subst (λ (k : List ℕ). is_some (mark_at m k t) ≡ true) (same_name name q at) (subst (λ (y : ℕ). is_some (mark_at y q t) ≡ true) (eqb-true n m e) listed) in
        absurd (no_mark (mark_at m name t) here (note.at ∙ none (mark_at m name s) None refl))
    by true false e at =
        let ne = other_name name q at in
        let there : is_some (mark_at n q s) ≡ true =
        subst (λ (y : ℕ). is_some (mark_at y q s) ≡ true) (sym (eqb-true n m e)) (ap is_some (sym (note.others q ne)) ∙ subst (λ (y : ℕ). is_some (mark_at y q t) ≡ true) (eqb-true n m e) listed) in
        other there (λ o. ne o.0) (is_open_under n (relay_lock_at q locks)) refl
    by false c e at =
        let there : is_some (mark_at n q s) ≡ true = ap (λ (names : Names). is_some (mark_in q names)) (sym (note.sessions n (eqb-false n m e))) ∙ listed in
        other there (λ o. let number : Some m ≡ Some n = o.1 in let same : m ≡ n = cc in eqb-false n m e (sym same)) (is_open_under n (relay_lock_at q locks)) refl

-- what is due first went up
module _ (number : ℕ) (name : List ℕ) (old new : RelayLocks) (s : Sessions) (ascend : Ascends old) (ascends : Ascends new) (opens : AreOpen old s) (change : ChangesAt name (step (events.Sent number)) old new) where
  -- nothing was open for a lock for which something is due
  open_elsewhere : (verb : LockVerb) → verb_due (relay_lock_at name old).state ≡ Some verb → AreOpen new s
  open_elsewhere verb due n q listed = by (test q name) refl
    where
      by : (b : Bool) → test q name ≡ b → is_open_under n (relay_lock_at q new) ≡ true
      by true at =
          let here = subst (λ (k : List ℕ). is_open_under n (relay_lock_at k old) ≡ true) (sym (same_name q name at)) (opens n q listed) in
          absurd (sent_not_due n verb (relay_lock_at name old).state here due)
      by false at = ap (is_open_under n) (changed_nowhere_else is_desk_idle no_relay_lock refl idle_is_none name (step (events.Sent number)) old new change q at) ∙ opens n q listed

  open_more : (verb : LockVerb) (t : Sessions) → verb_due (relay_lock_at name old).state ≡ Some verb → is_sent number (state_sent number (relay_lock_at name old).state) ≡ true → Notes s number name (Some false) t
      → AreOpen new t
  open_more verb t due sent note n q listed = by (n == number) (test name q) refl refl
    where
      here : is_open_under number (relay_lock_at name new) ≡ true
      here = ap (is_open_under number) (changed_here is_desk_idle no_relay_lock refl idle_is_none name (step (events.Sent number)) old new change ascend ascends) ∙ sent

      by : (b c : Bool) → (n == number) ≡ b → test name q ≡ c → is_open_under n (relay_lock_at q new) ≡ true
      by true true e at =
          subst (λ (y : ℕ). is_open_under y (relay_lock_at q new) ≡ true) (sym (eqb-true n number e)) (subst (λ (k : List ℕ). is_open_under number (relay_lock_at k new) ≡ true) (sym (same_name name q at)) here)
      by true false e at =
          let there : is_some (mark_at n q s) ≡ true =
          subst (λ (y : ℕ). is_some (mark_at y q s) ≡ true) (sym (eqb-true n number e))
          (ap is_some (sym (note.others q (other_name name q at))) ∙ subst (λ (y : ℕ). is_some (mark_at y q t) ≡ true) (eqb-true n number e) listed) in
          open_elsewhere verb due n q there
      by false c e at = open_elsewhere verb due n q (ap (λ (names : Names). is_some (mark_in q names)) (sym (note.sessions n (eqb-false n number e))) ∙ listed)

  pub open_sent : (verb : LockVerb) (t : Sessions) → verb_due (relay_lock_at name old).state ≡ Some verb → Opens verb number name s t → AreOpen new t
  open_sent verbs.Lock t due opened = open_more verbs.Lock t due (lock_sent number (relay_lock_at name old).state due) opened
  open_sent verbs.Steal t due opened = open_more verbs.Steal t due (steal_sent number (relay_lock_at name old).state due) opened
  open_sent verbs.Unlock t due opened = subst (AreOpen new) (sym opened) (open_elsewhere verbs.Unlock due)

-- all locks changed
pub open_told : (session : ℕ) (old new : RelayLocks) (s : Sessions) → Ascends old → AreOpen old s → new ≡ stepped (events.AllTold session) old → AreOpen new s
open_told session old new s ascend opens change n q listed =
    ap (λ (es : RelayLocks). is_open_under n (relay_lock_at q es)) change ∙ ap (is_open_under n) (stepped_at (events.AllTold session) q old ascend) ∙ opens n q listed

pub open_answered : (number : ℕ) (reply : LockReply) (old new : RelayLocks) (s t : Sessions) → Ascends old → AreOpen old s → new ≡ stepped (events.Answered number reply) old → Forgets number s t → AreOpen new t
open_answered number reply old new s t ascend opens change forgets n q listed = by (n == number) refl
  where
    by : (b : Bool) → (n == number) ≡ b → is_open_under n (relay_lock_at q new) ≡ true
    by true e =
        let gone : mark_at n q t ≡ None = subst (λ (y : ℕ). mark_at y q t ≡ None) (sym (eqb-true n number e)) (ap (mark_in q) forgets.gone) in
        absurd (no_mark (mark_at n q t) listed gone)
    by false e =
        let apart = eqb-false n number e in
        let was = opens n q (ap (λ (names : Names). is_some (mark_in q names)) (sym (forgets.sessions n apart)) ∙ listed) in
        ap (λ (es : RelayLocks). is_open_under n (relay_lock_at q es)) change
        ∙ ap (is_open_under n) (stepped_at (events.Answered number reply) q old ascend ∙ unanswered number reply (relay_lock_at q old) (sent_alone number n (relay_lock_at q old).state apart was))
        ∙ was

-- ---- what they tell

module _ (number : ℕ) where
  -- the locks whose request is open under this number
  abbrev pub open_under : List ℕ → RelayLockValue → List (List ℕ)
  open_under name l = cond (is_open_under number l) (name ∷ []) []

  open_all : (es : RelayLocks) → is_some (slice_get (gathered open_under es) 0) ≡ is_sent_at number es
  open_all [] = refl
  open_all (e ∷ es) = by (is_open_under number e.1) (open_all es)
    where
      by : (b : Bool) → is_some (slice_get (gathered open_under es) 0) ≡ is_sent_at number es → is_some (slice_get (cond b (e.0 ∷ []) [] ++ gathered open_under es) 0) ≡ (b || is_sent_at number es)
      by true rest = refl
      by false rest = rest

  pub open_tell : (locks : RelayLocks) (s : Sessions) → Ascends locks → Ascends (names_at number s) → AreRequested locks s
      → is_some (slice_get (gathered (λ name (b : Bool). open_under name (relay_lock_at name locks)) (names_at number s)) 0) ≡ is_sent_at number locks
  open_tell locks s ascend names requested =
      ap (λ (xs : List (List ℕ)). is_some (slice_get xs 0))
      (names_tell (is_open_under number) no_relay_lock refl open_under (λ name l none. ap (λ (b : Bool). cond b (name ∷ []) []) none) locks (names_at number s) ascend names (requested number))
      ∙ open_all locks
