-- To whom something comes to be owed for a lock by an event: to its owner, before or after, and to the session whose steal isn't answered, alone.
use Rattle.std.proofs.Common.{◌≡◌, ℕ, List, [], ◌∷◌, ◌++◌, Bool, true, false, cond, ◌||◌, ◌&&◌, Option, Some, None, refl, sym, ap, ◌∙◌}
use Rattle.std.specs.Prelude.{◌≢◌, ◌==◌, not, filter}
use Rattle.std.specs.List.{list_any}
use Rattle.std.proofs.lemmas.Bool.{eqb-true, eq-eqb, ne_eqb}
use Rattle.std.proofs.lemmas.List.Folds.{list_any-append}
use Rattle.serde_json.specs.Data.{Data}
use Rattle.ovs_locks.specs.declared.waiter.Waiter.{Waiter}
use Rattle.ovs_locks.specs.declared.waiter.PendingNotice.TheVariants as owes
use Rattle.ovs_locks.specs.Lock.{LockValue, waiter, is_who, is_in, is_first, is_free, first_who, owner, stands, stolen_from, stolen_by, put_first, robbed, robbed_from, robbed_first, dropped, granted, granted_first, without, forgotten, awaits, is_due, first_due, is_owed, told_one, heard, told_first, heard_first}
use Rattle.ovs_lock_desk.specs.declared.lock_state.LockState.{LockState}
use Rattle.ovs_lock_desk.specs.declared.lock_state.LockState.TheVariants.{Idle, Sent, Waiting, Held}
use Rattle.ovs_lock_desk.specs.declared.lock_state.LockEvent.{LockEvent}
use Rattle.ovs_lock_desk.specs.declared.lock_state.LockEvent.TheVariants as events
use Rattle.ovs_lock_desk.specs.declared.lock_state.LockReply.{LockReply}
use Rattle.ovs_lock_desk.specs.declared.lock_state.LockReply.TheVariants as replies
use Rattle.ovs_lock_desk.specs.declared.lock_state.LockVerb.{LockVerb}
use Rattle.ovs_lock_desk.specs.declared.lock_state.LockVerb.TheVariants as verbs
use Rattle.ovs_lock_desk.specs.declared.pending_steal.PendingSteal.{PendingSteal}
use Rattle.ovs_lock_desk.specs.declared.pending_steal.StealOutcome.{StealOutcome}
use Rattle.ovs_lock_desk.specs.declared.pending_steal.StealOutcome.TheVariants as outcomes
use Rattle.ovs_lock_desk.specs.declared.error.DeskError.TheVariants as errors
use Rattle.ovs_lock_desk.specs.LockState.{is_held, is_sent, state_as_lock, state_given_up}
use Rattle.ovs_lock_desk.specs.PendingSteal.{is_of, is_open, is_own_open, is_due_late, late_of, settled_one, settled, without_one, open_session}
use Rattle.ovs_lock_desk.specs.RelayLock.{RelayLockValue, concerns, steal_open, own_steal_open, asked_here, stolen_here, enters, left, held, answered_so, granted_in, step, steal_failed, asked_again, forgotten_by, desk_owner, refusal, IsStolenByOne}
use Rattle.ovs_lock_desk.specs.LockDesk.{owes_here}
use Rattle.ovs_lock_desk.proofs.Concerned.{neither}

both_not : (a b : Bool) → a ≡ false → b ≡ false → (a || b) ≡ false
both_not a b e f = rw (e, f) refl

and_false : (a : Bool) → (a && false) ≡ false
and_false true = refl
and_false false = refl

-- ---- lists of which none passes

module _ {X : Type 0} (p q : X → Bool) where
  none_filtered : (xs : List X) → list_any p xs ≡ false → list_any p (filter q xs) ≡ false
  none_filtered [] none = refl
  none_filtered (a ∷ xs) none = let n = neither (p a) (list_any p xs) none in by (q a) n.0 (none_filtered xs n.1)
    where
      by : (b : Bool) → p a ≡ false → list_any p (filter q xs) ≡ false → list_any p (cond b (a ∷ filter q xs) (filter q xs)) ≡ false
      by true here rest = both_not (p a) (list_any p (filter q xs)) here rest
      by false here rest = rest

  none_without : (xs : List X) → list_any p xs ≡ false → list_any p (without_one q xs) ≡ false
  none_without [] none = refl
  none_without (a ∷ xs) none = let n = neither (p a) (list_any p xs) none in by (q a) n.0 n.1 (none_without xs n.1)
    where
      by : (b : Bool) → p a ≡ false → list_any p xs ≡ false → list_any p (without_one q xs) ≡ false → list_any p (cond b xs (a ∷ without_one q xs)) ≡ false
      by true here later rest = later
      by false here later rest = both_not (p a) (list_any p (without_one q xs)) here rest

-- none that passes is left
none_passes : {X : Type 0} (p : X → Bool) (xs : List X) → list_any p (filter (λ a. not (p a)) xs) ≡ false
none_passes p [] = refl
none_passes p (a ∷ xs) = by (p a) refl (none_passes p xs)
  where
    by : (b : Bool) → p a ≡ b → list_any p (filter (λ a. not (p a)) xs) ≡ false → list_any p (cond (not b) (a ∷ filter (λ a. not (p a)) xs) (filter (λ a. not (p a)) xs)) ≡ false
    by true is rest = rest
    by false is rest = both_not (p a) (list_any p (filter (λ a. not (p a)) xs)) is rest

-- ---- what is owed by the lists of a lock

due_any : (x : ℕ) (xs : List Waiter) → is_due (first_due x xs) ≡ list_any (awaits x) xs
due_any x [] = refl
due_any x (a ∷ xs) = by (awaits x a) refl (due_any x xs)
  where
    due : (c d : Bool) → (c && d) ≡ true → d ≡ true
    due true d e = e
    due false d e = absurd cc

    by : (b : Bool) → awaits x a ≡ b → is_due (first_due x xs) ≡ list_any (awaits x) xs → is_due (cond b a.owed (first_due x xs)) ≡ (b || list_any (awaits x) xs)
    by true e rest = due (a.session == x) (is_due a.owed) e
    by false e rest = rest

module _ (x : ℕ) where
  abbrev waits : List Waiter → Bool
  waits xs = list_any (awaits x) xs

  -- neither list owes the session something
  record Silent (l : LockValue) : Type 0 where
    queue : waits l.queue ≡ false
    stolen : waits l.stolen ≡ false

  silent : (l : LockValue) → is_owed x l ≡ false → Silent l
  silent l none =
      let n = neither (is_due (first_due x l.queue)) (is_due (first_due x l.stolen)) none in
      record { queue = sym (due_any x l.queue) ∙ n.0; stolen = sym (due_any x l.stolen) ∙ n.1 }

  unowed : (l : LockValue) → Silent l → is_owed x l ≡ false
  unowed l s = both_not (is_due (first_due x l.queue)) (is_due (first_due x l.stolen)) (due_any x l.queue ∙ s.queue) (due_any x l.stolen ∙ s.stolen)

  asks_only : (session : ℕ) → awaits x (waiter session) ≡ false
  asks_only session = and_false (session == x)

  of_another : (a : Waiter) → Some a.session ≢ Some x → awaits x a ≡ false
  of_another a apart = rw (ne_eqb a.session x (λ e. apart (ap Some e))) refl

  one_more : (xs : List Waiter) (a : Waiter) → waits xs ≡ false → awaits x a ≡ false → waits (xs ++ a ∷ []) ≡ false
  one_more xs a none is = list_any-append (awaits x) xs (a ∷ []) ∙ rw (none, is) refl

  none_dropped : (session : ℕ) (xs : List Waiter) → waits xs ≡ false → waits (dropped session xs) ≡ false
  none_dropped session xs none = none_filtered (awaits x) (λ a. not (is_who session a)) xs none

  none_granted : (now : Bool) (xs : List Waiter) → waits xs ≡ false → (now ≡ true → first_who (granted now xs) ≢ Some x) → waits (granted now xs) ≡ false
  none_granted now [] none apart = refl
  none_granted true (a ∷ xs) none apart =
      let n = neither (awaits x a) (waits xs) none in
      both_not (awaits x (record { session = a.session; owed = owes.Locked })) (waits xs) (of_another (record { session = a.session; owed = owes.Locked }) (apart refl)) n.1
  none_granted false (a ∷ xs) none apart = none

  silent_left : (session : ℕ) (c : LockState) (l : LockValue) → Silent l → (is_held c ≡ true → is_first session l.queue ≡ true → first_who (left session c l).queue ≢ Some x) → Silent (left session c l)
  silent_left session c l s apart = by (is_held c) refl apart
    where
      by : (b : Bool) → is_held c ≡ b → (b ≡ true → is_first session l.queue ≡ true → first_who (cond b (without session l) (forgotten session l)).queue ≢ Some x) → Silent (cond b (without session l) (forgotten session l))
      by true is next = record { queue = none_granted (is_first session l.queue) (dropped session l.queue) (none_dropped session l.queue s.queue) (λ first. next refl first); stolen = none_dropped session l.stolen s.stolen }
      by false is next = record { queue = none_dropped session l.queue s.queue; stolen = none_dropped session l.stolen s.stolen }

  silent_robbed : (queue stolen : List Waiter) → waits queue ≡ false → waits stolen ≡ false → first_who queue ≢ Some x → Silent (robbed_from queue stolen)
  silent_robbed [] stolen q s apart = record { queue = refl; stolen = s }
  silent_robbed (a ∷ later) stolen q s apart =
      let n = neither (awaits x a) (waits later) q in
      record { queue = n.1; stolen = one_more stolen (robbed a) s (of_another (robbed a) apart) }

  silent_stolen : (session : ℕ) (queue stolen : List Waiter) → waits queue ≡ false → waits stolen ≡ false → first_who queue ≢ Some x → Silent (stolen_from session queue stolen)
  silent_stolen session [] stolen q s apart = record { queue = both_not (awaits x (waiter session)) false (asks_only session) refl; stolen = s }
  silent_stolen session (a ∷ later) stolen q s apart =
      let n = neither (awaits x a) (waits later) q in
      record { queue = both_not (awaits x (waiter session)) (waits later) (asks_only session) n.1; stolen = one_more stolen (robbed a) s (of_another (robbed a) apart) }

  silent_forgotten : (o : Option ℕ) (l : LockValue) → Silent l → Silent (forgotten_by o l)
  silent_forgotten None l s = s
  silent_forgotten (Some session) l s = record { queue = none_dropped session l.queue s.queue; stolen = none_dropped session l.stolen s.stolen }

  none_heard : (session : ℕ) (xs : List Waiter) → waits xs ≡ false → waits (heard session xs) ≡ false
  none_heard session [] none = refl
  none_heard session (a ∷ xs) none =
      let n = neither (awaits x a) (waits xs) none in
      both_not (awaits x (told_one session a)) (waits (heard session xs)) (by (is_who session a) n.0) (none_heard session xs n.1)
    where
      by : (b : Bool) → awaits x a ≡ false → awaits x (cond b (waiter session) a) ≡ false
      by true here = asks_only session
      by false here = here

  none_told : (session : ℕ) (xs : List Waiter) → waits xs ≡ false → waits (heard_first session xs) ≡ false
  none_told session [] none = refl
  none_told session (a ∷ xs) none = let n = neither (awaits x a) (waits xs) none in by (awaits session a) refl n.0 n.1 (none_told session xs n.1)
    where
      another : (b : Bool) → (a.session == x) ≡ b → awaits session a ≡ true → awaits x a ≡ false → b ≡ false
      another false at is here = refl
      another true at is here =
          let owed = both (a.session == session) (is_due a.owed) is in
          let clash : true ≡ false = sym (rw (at, owed) refl) ∙ here in
          absurd cc
        where
          both : (c d : Bool) → (c && d) ≡ true → d ≡ true
          both true d e = e
          both false d e = absurd cc

      by : (b : Bool) → awaits session a ≡ b → awaits x a ≡ false → waits xs ≡ false → waits (heard_first session xs) ≡ false → waits (cond b (told_first a ∷ xs) (a ∷ heard_first session xs)) ≡ false
      by true is here later rest = let other = another (a.session == x) refl is here in both_not (awaits x (told_first a)) (waits xs) (rw other refl) later
      by false is here later rest = both_not (awaits x a) (waits (heard_first session xs)) here rest

  -- ---- what is owed by pending steals

  abbrev answers : List PendingSteal → Bool
  answers late = list_any (is_due_late x) late

  none_settled : (outcome : StealOutcome) (late : List PendingSteal) → answers late ≡ false → list_any (is_own_open x) late ≡ false → answers (settled outcome late) ≡ false
  none_settled outcome [] none far = refl
  none_settled outcome (e ∷ late) none far =
      let n = neither (is_due_late x e) (answers late) none in
      let m = neither (is_own_open x e) (list_any (is_own_open x) late) far in
      both_not (is_due_late x (settled_one outcome e)) (answers (settled outcome late)) (by (is_open e) refl n.0 m.0) (none_settled outcome late n.1 m.1)
    where
      by : (b : Bool) → is_open e ≡ b → (not b && is_of x e) ≡ false → (b && is_of x e) ≡ false → is_due_late x (cond b (record { session = e.session; id = e.id; outcome = Some outcome }) e) ≡ false
      by true is due own = own
      by false is due own = rw is due

  not_own : (l : RelayLockValue) → IsStolenByOne l → open_session l.late ≢ Some x → own_steal_open x l ≡ false
  not_own l one apart = by (own_steal_open x l) refl
    where
      by : (b : Bool) → own_steal_open x l ≡ b → b ≡ false
      by true own = absurd (apart (one x own))
      by false own = refl

  -- ---- one lock

  -- nothing is owed to the session for the lock
  record OwesNothing (l : RelayLockValue) : Type 0 where
    late : answers l.late ≡ false
    lock : Silent l.lock

  parts : (l : RelayLockValue) → owes_here x l ≡ false → OwesNothing l
  parts l none =
      let n = neither (answers l.late) (is_owed x l.lock) none in
      record { late = n.0; lock = silent l.lock n.1 }

  nothing : (l : RelayLockValue) → answers l.late ≡ false → Silent l.lock → owes_here x l ≡ false
  nothing l late lock = both_not (answers l.late) (is_owed x l.lock) late (unowed l.lock lock)

  -- the first of a queue that is left with the lock owns it
  owns : (queue : List Waiter) (c : LockState) → is_held c ≡ true → cond (is_held (cond (is_free queue) (state_given_up c) c)) (first_who queue) None ≢ Some x → first_who queue ≢ Some x
  owns [] c is apart = λ e. absurd cc
  owns (a ∷ later) c is apart = λ e. apart (rw is e)

  pub owed_left : (session : ℕ) (l : RelayLockValue) → desk_owner (step (events.Unlocked session) l) ≢ Some x → owes_here x l ≡ false → owes_here x (step (events.Unlocked session) l) ≡ false
  owed_left session l next none =
      let p = parts l none in
      nothing (step (events.Unlocked session) l) p.late (silent_left session l.state l.lock p.lock (λ is first. owns (left session l.state l.lock).queue l.state is next))

  pub owed_ended : (session : ℕ) (l : RelayLockValue) → desk_owner (step (events.Ended session) l) ≢ Some x → owes_here x l ≡ false → owes_here x (step (events.Ended session) l) ≡ false
  owed_ended session l next none =
      let p = parts l none in
      let state = cond (own_steal_open session l) (state_as_lock l.state) l.state in
      nothing (step (events.Ended session) l) (none_filtered (is_due_late x) (λ e. not (is_of session e)) l.late p.late)
      (silent_left session state l.lock p.lock (λ is first. owns (left session state l.lock).queue state is next))

  -- by the end of a session that has nothing to do with the lock nothing comes to be owed
  pub owed_apart : (session : ℕ) (l : RelayLockValue) → concerns session l ≡ false → owes_here x l ≡ false → owes_here x (step (events.Ended session) l) ≡ false
  owed_apart session l apart none =
      let p = parts l none in
      let state = cond (own_steal_open session l) (state_as_lock l.state) l.state in
      let stands = neither (list_any (is_of session) l.late) (stands session l.lock) apart in
      let queued = neither (is_in session l.lock.queue) (is_in session l.lock.stolen) stands.1 in
      nothing (step (events.Ended session) l) (none_filtered (is_due_late x) (λ e. not (is_of session e)) l.late p.late)
      (silent_left session state l.lock p.lock (λ is first. absurd (let clash = sym first ∙ not_first l.lock.queue queued.0 in cc)))
    where
      not_first : (xs : List Waiter) → is_in session xs ≡ false → is_first session xs ≡ false
      not_first [] e = refl
      not_first (a ∷ xs) e = (neither (is_who session a) (is_in session xs) e).0

  owed_failed : (outcome : StealOutcome) (l : RelayLockValue) → IsStolenByOne l → open_session l.late ≢ Some x → answers l.late ≡ false → Silent l.lock → owes_here x (steal_failed outcome l) ≡ false
  owed_failed outcome l one far late lock =
      nothing (steal_failed outcome l) (none_settled outcome l.late late (not_own l one far)) (silent_forgotten (open_session l.late) l.lock lock)

  pub owed_lost : (l : RelayLockValue) → IsStolenByOne l → desk_owner l ≢ Some x → open_session l.late ≢ Some x → owes_here x l ≡ false → owes_here x (step events.Lost l) ≡ false
  owed_lost l one before far none =
      let p = parts l none in
      owed_failed outcomes.SourceLost (record { lock = cond (is_held l.state) (robbed_first l.lock) l.lock; late = l.late; state = l.state }) one far p.late (by (is_held l.state) before p.lock)
    where
      by : (b : Bool) → cond b (owner l.lock) None ≢ Some x → Silent l.lock → Silent (cond b (robbed_first l.lock) l.lock)
      by true before s = silent_robbed l.lock.queue l.lock.stolen s.queue s.stolen before
      by false before s = s

  owed_held : (l : RelayLockValue) → IsStolenByOne l → open_session l.late ≢ Some x → desk_owner (held l) ≢ Some x → owes_here x l ≡ false → owes_here x (held l) ≡ false
  owed_held l one far next none =
      let p = parts l none in
      nothing (held l) (none_settled outcomes.Won l.late p.late (not_own l one far)) (by (steal_open l) next p.lock)
    where
      by : (b : Bool) → owner (cond b l.lock (granted_first l.lock)) ≢ Some x → Silent l.lock → Silent (cond b l.lock (granted_first l.lock))
      by true next s = s
      by false next s = record { queue = none_granted true l.lock.queue s.queue (λ now. next); stolen = s.stolen }

  -- by what a session is told nothing comes to be owed
  pub owed_answer : (session : ℕ) (l : RelayLockValue) → owes_here x l ≡ false → owes_here x (step (events.AnswerTold session) l) ≡ false
  owed_answer session l none =
      let p = parts l none in
      nothing (step (events.AnswerTold session) l) (none_without (is_due_late x) (is_due_late session) l.late p.late) p.lock

  pub owed_notice : (session : ℕ) (l : RelayLockValue) → owes_here x l ≡ false → owes_here x (step (events.NoticeTold session) l) ≡ false
  owed_notice session l none =
      let p = parts l none in
      nothing (step (events.NoticeTold session) l) p.late
      (record { queue = none_told session l.lock.queue p.lock.queue; stolen = by (is_due (first_due session l.lock.queue)) p.lock.stolen })
    where
      by : (b : Bool) → waits l.lock.stolen ≡ false → waits (cond b l.lock.stolen (heard_first session l.lock.stolen)) ≡ false
      by true s = s
      by false s = none_told session l.lock.stolen s

  pub owed_told : (session : ℕ) (l : RelayLockValue) → owes_here x l ≡ false → owes_here x (step (events.AllTold session) l) ≡ false
  owed_told session l none =
      let p = parts l none in
      nothing (step (events.AllTold session) l) (none_filtered (is_due_late x) (λ e. not (is_due_late session e)) l.late p.late)
      (record { queue = none_heard session l.lock.queue p.lock.queue; stolen = none_heard session l.lock.stolen p.lock.stolen })

  pub owed_stepped : (event : LockEvent) (l : RelayLockValue) → IsStolenByOne l → desk_owner l ≢ Some x → open_session l.late ≢ Some x → desk_owner (step event l) ≢ Some x → owes_here x l ≡ false
      → owes_here x (step event l) ≡ false
  owed_stepped (events.Unlocked session) l one before far next none = owed_left session l next none
  owed_stepped (events.Sent m) l one before far next none = none
  owed_stepped (events.Answered m reply) l one before far next none = by (is_sent m l.state) reply next
    where
      by : (b : Bool) (reply : LockReply) → desk_owner (cond b (answered_so reply l) l) ≢ Some x → owes_here x (cond b (answered_so reply l) l) ≡ false
      by true replies.Given next = owed_held l one far next none
      by true replies.Waits next = none
      by true replies.Refused next = let p = parts l none in owed_failed outcomes.Refused l one far p.late p.lock
      by false reply next = none
  owed_stepped events.Granted l one before far next none = by l.state next
    where
      by : (c : LockState) → desk_owner (granted_in c l) ≢ Some x → owes_here x (granted_in c l) ≡ false
      by (Idle d) next = none
      by (Sent m) next = none
      by Waiting next = owed_held l one far next none
      by Held next = none
  owed_stepped events.Stolen l one before far next none = by (is_held l.state) before
    where
      by : (b : Bool) → cond b (owner l.lock) None ≢ Some x → owes_here x (cond b (record { lock = robbed_first l.lock; late = l.late; state = asked_again (robbed_first l.lock) }) l) ≡ false
      by true before =
          let p = parts l none in
          nothing (record { lock = robbed_first l.lock; late = l.late; state = asked_again (robbed_first l.lock) }) p.late (silent_robbed l.lock.queue l.lock.stolen p.lock.queue p.lock.stolen before)
      by false before = none
  owed_stepped events.Lost l one before far next none = owed_lost l one before far none
  owed_stepped events.Found l one before far next none = none
  owed_stepped (events.Ended session) l one before far next none = owed_ended session l next none
  owed_stepped (events.AnswerTold session) l one before far next none = owed_answer session l none
  owed_stepped (events.NoticeTold session) l one before far next none = owed_notice session l none
  owed_stepped (events.AllTold session) l one before far next none = owed_told session l none

  pub owed_asked : (has_source : Bool) (session : ℕ) (verb : LockVerb) (id : Data) (l : RelayLockValue) → enters verb ≡ true → desk_owner l ≢ Some x → owes_here x l ≡ false
      → owes_here x (asked_here has_source session verb id l) ≡ false
  owed_asked has_source session verbs.Lock id l enters before none =
      let p = parts l none in
      nothing (asked_here has_source session verbs.Lock id l) p.late (record { queue = one_more l.lock.queue (waiter session) p.lock.queue (asks_only session); stolen = p.lock.stolen })
  owed_asked has_source session verbs.Unlock id l enters before none = absurd cc
  owed_asked has_source session verbs.Steal id l enters before none = by (is_held l.state) refl before
    where
      by : (b : Bool) → is_held l.state ≡ b → cond b (owner l.lock) None ≢ Some x → owes_here x (stolen_here session id l) ≡ false
      by true is before =
          let p = parts l none in
          rw is (nothing (record { lock = stolen_by session l.lock; late = l.late; state = l.state }) p.late (silent_stolen session l.lock.queue l.lock.stolen p.lock.queue p.lock.stolen before))
      by false is before =
          let p = parts l none in
          let late : answers (l.late ++ late_of session id ∷ []) ≡ false = list_any-append (is_due_late x) l.late (late_of session id ∷ []) ∙ rw p.late refl in
          let lock : Silent (put_first session l.lock) = record { queue = both_not (awaits x (waiter session)) (waits l.lock.queue) (asks_only session) p.lock.queue; stolen = p.lock.stolen } in
          rw is (both_not (answers (l.late ++ late_of session id ∷ [])) (is_owed x (put_first session l.lock)) late (unowed (put_first session l.lock) lock))

-- a session that was told all is owed nothing
pub told_unowed : (session : ℕ) (l : RelayLockValue) → owes_here session (step (events.AllTold session) l) ≡ false
told_unowed session l =
    nothing session (step (events.AllTold session) l) (none_passes (is_due_late session) l.late) (record { queue = all_heard l.lock.queue; stolen = all_heard l.lock.stolen })
  where
    all_heard : (xs : List Waiter) → list_any (awaits session) (heard session xs) ≡ false
    all_heard [] = refl
    all_heard (a ∷ xs) = both_not (awaits session (told_one session a)) (list_any (awaits session) (heard session xs)) (by (is_who session a) refl) (all_heard xs)
      where
        by : (b : Bool) → is_who session a ≡ b → awaits session (cond b (waiter session) a) ≡ false
        by true is = asks_only session session
        by false is = rw is refl

-- ---- the steals that aren't answered are of one session

abbrev IsOfOne : List PendingSteal → Type 0
IsOfOne late = (x : ℕ) → list_any (is_own_open x) late ≡ true → open_session late ≡ Some x

has_open : (late : List PendingSteal) (x : ℕ) → list_any (is_own_open x) late ≡ true → open_session late ≢ None
has_open [] x own = absurd cc
has_open (e ∷ late) x own = by (is_open e) own (has_open late x)
  where
    by : (b : Bool) → ((b && is_of x e) || list_any (is_own_open x) late) ≡ true → (list_any (is_own_open x) late ≡ true → open_session late ≢ None) → cond b (Some e.session) (open_session late) ≢ None
    by true own more = λ e. absurd cc
    by false own more = more own

its_open : (late : List PendingSteal) (x : ℕ) → open_session late ≡ Some x → list_any (is_own_open x) late ≡ true
its_open [] x is = absurd cc
its_open (e ∷ late) x is = by (is_open e) is (its_open late x)
  where
    by : (b : Bool) → cond b (Some e.session) (open_session late) ≡ Some x → (open_session late ≡ Some x → list_any (is_own_open x) late ≡ true) → ((b && is_of x e) || list_any (is_own_open x) late) ≡ true
    by true is more = let same : e.session ≡ x = cc in rw (eq-eqb e.session x same) refl
    by false is more = more is

-- with no more of them than there were
fewer : (old new : List PendingSteal) → ((x : ℕ) → list_any (is_own_open x) old ≡ false → list_any (is_own_open x) new ≡ false) → IsOfOne old → IsOfOne new
fewer old new less one x own = by (open_session new) refl
  where
    more : (y : ℕ) → list_any (is_own_open y) new ≡ true → (b : Bool) → list_any (is_own_open y) old ≡ b → b ≡ true
    more y is true at = refl
    more y is false at = absurd (let clash = sym is ∙ less y at in cc)

    by : (o : Option ℕ) → open_session new ≡ o → o ≡ Some x
    by None is = absurd (has_open new x own is)
    by (Some y) is =
        let its = its_open new y is in
        sym (one y (more y its (list_any (is_own_open y) old) refl)) ∙ one x (more x own (list_any (is_own_open x) old) refl)

one_settled : (outcome : StealOutcome) (late : List PendingSteal) → IsOfOne (settled outcome late)
one_settled outcome late x own = absurd (let clash = sym own ∙ none late in cc)
  where
    none : (late : List PendingSteal) → list_any (is_own_open x) (settled outcome late) ≡ false
    none [] = refl
    none (e ∷ late) = both_not (is_own_open x (settled_one outcome e)) (list_any (is_own_open x) (settled outcome late)) (by (is_open e) refl) (none late)
      where
        by : (b : Bool) → is_open e ≡ b → is_own_open x (cond b (record { session = e.session; id = e.id; outcome = Some outcome }) e) ≡ false
        by true is = refl
        by false is = rw is refl

pub one_stepped : (event : LockEvent) (l : RelayLockValue) → IsStolenByOne l → IsStolenByOne (step event l)
one_stepped (events.Unlocked session) l one = one
one_stepped (events.Sent m) l one = one
one_stepped (events.Answered m reply) l one = by (is_sent m l.state) reply
  where
    by : (b : Bool) (reply : LockReply) → IsStolenByOne (cond b (answered_so reply l) l)
    by true replies.Given = one_settled outcomes.Won l.late
    by true replies.Waits = one
    by true replies.Refused = one_settled outcomes.Refused l.late
    by false reply = one
one_stepped events.Granted l one = by l.state
  where
    by : (c : LockState) → IsStolenByOne (granted_in c l)
    by (Idle d) = one
    by (Sent m) = one
    by Waiting = one_settled outcomes.Won l.late
    by Held = one
one_stepped events.Stolen l one = by (is_held l.state)
  where
    by : (b : Bool) → IsStolenByOne (cond b (record { lock = robbed_first l.lock; late = l.late; state = asked_again (robbed_first l.lock) }) l)
    by true = one
    by false = one
one_stepped events.Lost l one = one_settled outcomes.SourceLost l.late
one_stepped events.Found l one = one
one_stepped (events.Ended session) l one = fewer l.late (step (events.Ended session) l).late (λ x none. none_filtered (is_own_open x) (λ e. not (is_of session e)) l.late none) one
one_stepped (events.AnswerTold session) l one = fewer l.late (step (events.AnswerTold session) l).late (λ x none. none_without (is_own_open x) (is_due_late session) l.late none) one
one_stepped (events.NoticeTold session) l one = one
one_stepped (events.AllTold session) l one = fewer l.late (step (events.AllTold session) l).late (λ x none. none_filtered (is_own_open x) (λ e. not (is_due_late session e)) l.late none) one

-- a steal is asked for only where none isn't answered
pub one_asked : (has_source : Bool) (session : ℕ) (verb : LockVerb) (id : Data) (l : RelayLockValue) → refusal has_source verb session l ≡ None → IsStolenByOne l → IsStolenByOne (asked_here has_source session verb id l)
one_asked has_source session verbs.Lock id l may one = one
one_asked has_source session verbs.Unlock id l may one = one
one_asked has_source session verbs.Steal id l may one = by (is_held l.state) refl
  where
    not_refused : (a b c : Bool) → cond a (Some errors.AlreadyAsked) (cond (not b) (Some errors.SourceLost) (cond c (Some errors.StealPending) None)) ≡ None → c ≡ false
    not_refused true b c e = absurd cc
    not_refused false false c e = absurd cc
    not_refused false true true e = absurd cc
    not_refused false true false e = refl

    added : (late : List PendingSteal) → list_any is_open late ≡ false → IsOfOne (late ++ late_of session id ∷ [])
    added [] none x own = its (session == x) refl own
      where
        its : (b : Bool) → (session == x) ≡ b → (b || false) ≡ true → Some session ≡ Some x
        its true is own = ap Some (eqb-true session x is)
        its false is own = absurd cc
    added (e ∷ late) none x own =
        let n = neither (is_open e) (list_any is_open late) none in
        rw n.0 (added late n.1 x (skip (is_open e) n.0 own))
      where
        skip : (b : Bool) → b ≡ false → ((b && is_of x e) || list_any (is_own_open x) (late ++ late_of session id ∷ [])) ≡ true → list_any (is_own_open x) (late ++ late_of session id ∷ []) ≡ true
        skip true is own = absurd cc
        skip false is own = own

    by : (b : Bool) → is_held l.state ≡ b → IsStolenByOne (stolen_here session id l)
    by true is = rw is one
    by false is = rw is (added l.late (not_refused (stands session l.lock) has_source (steal_open l) may))
