-- With which locks a session has to do: nobody comes to have to do with one by an event.
use Rattle.std.proofs.Common.{◌≡◌, ℕ, List, [], ◌∷◌, ◌++◌, Bool, true, false, cond, ◌||◌, Option, Some, None, refl, sym, ap, ◌∙◌}
use Rattle.std.specs.Prelude.{◌≢◌, ◌==◌, not, filter}
use Rattle.std.proofs.lemmas.Bool.{eqb-true}
use Rattle.std.specs.List.{list_any}
use Rattle.std.proofs.lemmas.List.Folds.{list_any-append}
use Rattle.serde_json.specs.Data.{Data}
use Rattle.ovs_locks.specs.declared.waiter.Waiter.{Waiter}
use Rattle.ovs_locks.specs.Lock.{LockValue, is_in, is_who, stands, granted, granted_first, robbed, robbed_from, robbed_first, after_telling, heard, told_one, waiter}
use Rattle.ovs_locks.proofs.NextNotice.{one_heard}
use Rattle.ovs_lock_desk.specs.declared.lock_state.LockState.{LockState}
use Rattle.ovs_lock_desk.specs.declared.lock_state.LockState.TheVariants.{Idle, Sent, Waiting, Held}
use Rattle.ovs_lock_desk.specs.declared.lock_state.LockEvent.{LockEvent}
use Rattle.ovs_lock_desk.specs.declared.lock_state.LockEvent.TheVariants as events
use Rattle.ovs_lock_desk.specs.declared.lock_state.LockReply.{LockReply}
use Rattle.ovs_lock_desk.specs.declared.lock_state.LockReply.TheVariants as replies
use Rattle.ovs_lock_desk.specs.declared.lock_state.LockVerb.{LockVerb}
use Rattle.ovs_lock_desk.specs.declared.lock_state.LockVerb.TheVariants as verbs
use Rattle.ovs_lock_desk.specs.declared.pending_steal.PendingSteal.{PendingSteal}
use Rattle.ovs_lock_desk.specs.declared.pending_steal.StealOutcome.{StealOutcome}
use Rattle.ovs_lock_desk.specs.declared.pending_steal.StealOutcome.TheVariants as outcomes
use Rattle.ovs_lock_desk.specs.LockState.{is_held, is_sent, state_as_lock}
use Rattle.ovs_lock_desk.specs.PendingSteal.{is_of, is_open, is_due_late, late_of, settled_one, settled, without_one, open_session}
use Rattle.ovs_lock_desk.specs.RelayLock.{RelayLockValue, concerns, steal_open, own_steal_open, asked_here, stolen_here, held, answered_so, granted_in, step, steal_failed, asked_again, forgotten_by}
use Rattle.ovs_lock_desk.proofs.DeskOwed.{another, stands_asked, left_alone, forgotten_alone, stands_ended}

pub neither : (a b : Bool) → (a || b) ≡ false → (a ≡ false) × (b ≡ false)
neither true b e = absurd cc
neither false b e = (refl, e)

pub both_not : (a b : Bool) → a ≡ false → b ≡ false → (a || b) ≡ false
both_not a b e f = rw (e, f) refl

-- ---- pending steals

module _ (x : ℕ) where
  abbrev late_of_it : List PendingSteal → Bool
  late_of_it late = list_any (is_of x) late

  settled_of : (outcome : StealOutcome) (e : PendingSteal) → is_of x (settled_one outcome e) ≡ is_of x e
  settled_of outcome e = by (is_open e)
    where
      by : (b : Bool) → is_of x (cond b (record { session = e.session; id = e.id; outcome = Some outcome }) e) ≡ is_of x e
      by true = refl
      by false = refl

  none_settled : (outcome : StealOutcome) (late : List PendingSteal) → late_of_it late ≡ false → late_of_it (settled outcome late) ≡ false
  none_settled outcome [] none = refl
  none_settled outcome (e ∷ late) none =
      let n = neither (is_of x e) (late_of_it late) none in
      both_not (is_of x (settled_one outcome e)) (late_of_it (settled outcome late)) (settled_of outcome e ∙ n.0) (none_settled outcome late n.1)

  none_filtered : (q : PendingSteal → Bool) (late : List PendingSteal) → late_of_it late ≡ false → late_of_it (filter q late) ≡ false
  none_filtered q [] none = refl
  none_filtered q (e ∷ late) none =
      let n = neither (is_of x e) (late_of_it late) none in
      by (q e) n.0 (none_filtered q late n.1)
    where
      by : (b : Bool) → is_of x e ≡ false → late_of_it (filter q late) ≡ false → late_of_it (cond b (e ∷ filter q late) (filter q late)) ≡ false
      by true here rest = both_not (is_of x e) (late_of_it (filter q late)) here rest
      by false here rest = rest

  none_without : (q : PendingSteal → Bool) (late : List PendingSteal) → late_of_it late ≡ false → late_of_it (without_one q late) ≡ false
  none_without q [] none = refl
  none_without q (e ∷ late) none =
      let n = neither (is_of x e) (late_of_it late) none in
      by (q e) n.0 n.1 (none_without q late n.1)
    where
      by : (b : Bool) → is_of x e ≡ false → late_of_it late ≡ false → late_of_it (without_one q late) ≡ false → late_of_it (cond b late (e ∷ without_one q late)) ≡ false
      by true here later rest = later
      by false here later rest = both_not (is_of x e) (late_of_it (without_one q late)) here rest

  -- ---- lists of sessions

  none_granted : (l : LockValue) → stands x l ≡ false → stands x (granted_first l) ≡ false
  none_granted l none =
      let n = neither (is_in x l.queue) (is_in x l.stolen) none in
      both_not (is_in x (granted true l.queue)) (is_in x l.stolen) (of l.queue n.0) n.1
    where
      of : (xs : List Waiter) → is_in x xs ≡ false → is_in x (granted true xs) ≡ false
      of [] e = refl
      of (a ∷ xs) e = e

  none_robbed : (l : LockValue) → stands x l ≡ false → stands x (robbed_first l) ≡ false
  none_robbed l none = let n = neither (is_in x l.queue) (is_in x l.stolen) none in of l.queue l.stolen n.0 n.1
    where
      of : (queue stolen : List Waiter) → is_in x queue ≡ false → is_in x stolen ≡ false → stands x (robbed_from queue stolen) ≡ false
      of [] stolen q s = s
      of (a ∷ later) stolen q s =
          let n = neither (a.session == x) (is_in x later) q in
          both_not (is_in x later) (is_in x (stolen ++ robbed a ∷ [])) n.1 (list_any-append (is_who x) stolen (robbed a ∷ []) ∙ rw (s, n.0) refl)

  none_told : (session : ℕ) (xs : List Waiter) → is_in x xs ≡ false → is_in x (heard session xs) ≡ false
  none_told session [] none = refl
  none_told session (a ∷ xs) none =
      let n = neither (a.session == x) (is_in x xs) none in
      both_not (is_who x (told_one session a)) (is_in x (heard session xs)) (by (a.session == session) refl n.0) (none_told session xs n.1)
    where
      by : (b : Bool) → (a.session == session) ≡ b → (a.session == x) ≡ false → is_who x (cond b (waiter session) a) ≡ false
      by true same here = ap (λ (w : ℕ). w == x) (sym (eqb-true a.session session same)) ∙ here
      by false same here = here

  none_forgotten : (o : Option ℕ) (l : LockValue) → stands x l ≡ false → stands x (forgotten_by o l) ≡ false
  none_forgotten None l none = none
  none_forgotten (Some session) l none = forgotten_alone session x l none

  -- ---- one lock

  none_held : (l : RelayLockValue) → concerns x l ≡ false → concerns x (held l) ≡ false
  none_held l none =
      let n = neither (late_of_it l.late) (stands x l.lock) none in
      both_not (late_of_it (held l).late) (stands x (held l).lock) (none_settled outcomes.Won l.late n.0) (by (steal_open l) n.1)
    where
      by : (b : Bool) → stands x l.lock ≡ false → stands x (cond b l.lock (granted_first l.lock)) ≡ false
      by true e = e
      by false e = none_granted l.lock e

  none_failed : (outcome : StealOutcome) (l : RelayLockValue) → concerns x l ≡ false → concerns x (steal_failed outcome l) ≡ false
  none_failed outcome l none =
      let n = neither (late_of_it l.late) (stands x l.lock) none in
      both_not (late_of_it (settled outcome l.late)) (stands x (steal_failed outcome l).lock) (none_settled outcome l.late n.0) (none_forgotten (open_session l.late) l.lock n.1)

  pub none_stepped : (event : LockEvent) (l : RelayLockValue) → concerns x l ≡ false → concerns x (step event l) ≡ false
  none_stepped (events.Unlocked session) l none =
      let n = neither (late_of_it l.late) (stands x l.lock) none in
      both_not (late_of_it l.late) (stands x (step (events.Unlocked session) l).lock) n.0 (left_alone session x l.state l.lock n.1)
  none_stepped (events.Sent m) l none = none
  none_stepped (events.Answered m reply) l none = by (is_sent m l.state) reply
    where
      by : (b : Bool) (reply : LockReply) → concerns x (cond b (answered_so reply l) l) ≡ false
      by true replies.Given = none_held l none
      by true replies.Waits = none
      by true replies.Refused = none_failed outcomes.Refused l none
      by false reply = none
  none_stepped events.Granted l none = by l.state
    where
      by : (c : LockState) → concerns x (granted_in c l) ≡ false
      by (Idle d) = none
      by (Sent m) = none
      by Waiting = none_held l none
      by Held = none
  none_stepped events.Stolen l none = by (is_held l.state)
    where
      by : (b : Bool) → concerns x (cond b (record { lock = robbed_first l.lock; late = l.late; state = asked_again (robbed_first l.lock) }) l) ≡ false
      by true = let n = neither (late_of_it l.late) (stands x l.lock) none in both_not (late_of_it l.late) (stands x (robbed_first l.lock)) n.0 (none_robbed l.lock n.1)
      by false = none
  none_stepped events.Lost l none =
      let n = neither (late_of_it l.late) (stands x l.lock) none in
      let lock = cond (is_held l.state) (robbed_first l.lock) l.lock in
      none_failed outcomes.SourceLost (record { lock = lock; late = l.late; state = l.state }) (both_not (late_of_it l.late) (stands x lock) n.0 (by (is_held l.state) n.1))
    where
      by : (b : Bool) → stands x l.lock ≡ false → stands x (cond b (robbed_first l.lock) l.lock) ≡ false
      by true e = none_robbed l.lock e
      by false e = e
  none_stepped events.Found l none = none
  none_stepped (events.Ended session) l none =
      let n = neither (late_of_it l.late) (stands x l.lock) none in
      both_not (late_of_it (step (events.Ended session) l).late) (stands x (step (events.Ended session) l).lock) (none_filtered (λ e. not (is_of session e)) l.late n.0)
      (left_alone session x (cond (own_steal_open session l) (state_as_lock l.state) l.state) l.lock n.1)
  none_stepped (events.AnswerTold session) l none =
      let n = neither (late_of_it l.late) (stands x l.lock) none in
      both_not (late_of_it (step (events.AnswerTold session) l).late) (stands x l.lock) (none_without (is_due_late session) l.late n.0) n.1
  none_stepped (events.NoticeTold session) l none =
      let n = neither (late_of_it l.late) (stands x l.lock) none in
      both_not (late_of_it l.late) (stands x (step (events.NoticeTold session) l).lock) n.0 ((one_heard session l.lock).same_standing x ∙ n.1)
  none_stepped (events.AllTold session) l none =
      let n = neither (late_of_it l.late) (stands x l.lock) none in
      let m = neither (is_in x l.lock.queue) (is_in x l.lock.stolen) n.1 in
      both_not (late_of_it (step (events.AllTold session) l).late) (stands x (after_telling session l.lock)) (none_filtered (λ e. not (is_due_late session e)) l.late n.0)
      (both_not (is_in x (heard session l.lock.queue)) (is_in x (heard session l.lock.stolen)) (none_told session l.lock.queue m.0) (none_told session l.lock.stolen m.1))

  -- what one session asks concerns no other
  pub none_asked : (has_source : Bool) (session : ℕ) (verb : LockVerb) (id : Data) → x ≢ session → (l : RelayLockValue) → concerns x l ≡ false → concerns x (asked_here has_source session verb id l) ≡ false
  none_asked has_source session verb id apart l none =
      let n = neither (late_of_it l.late) (stands x l.lock) none in
      both_not (late_of_it (asked_here has_source session verb id l).late) (stands x (asked_here has_source session verb id l).lock) (late verb n.0) (stands_asked has_source session verb id x apart l n.1)
    where
      late : (verb : LockVerb) → late_of_it l.late ≡ false → late_of_it (asked_here has_source session verb id l).late ≡ false
      late verbs.Lock e = e
      late verbs.Unlock e = e
      late verbs.Steal e = by (is_held l.state) refl
        where
          by : (b : Bool) → is_held l.state ≡ b → late_of_it (stolen_here session id l).late ≡ false
          by true is = rw is e
          by false is = rw is (list_any-append (is_of x) l.late (late_of session id ∷ []) ∙ rw (e, another session x apart) refl)

-- a session that ended has nothing to do with it any more
pub none_ended : (session : ℕ) (l : RelayLockValue) → concerns session (step (events.Ended session) l) ≡ false
none_ended session l = both_not (list_any (is_of session) (step (events.Ended session) l).late) (stands session (step (events.Ended session) l).lock) (of l.late) (stands_ended session l)
  where
    of : (late : List PendingSteal) → list_any (is_of session) (filter (λ e. not (is_of session e)) late) ≡ false
    of [] = refl
    of (e ∷ late) = by (is_of session e) refl (of late)
      where
        by : (b : Bool) → is_of session e ≡ b → list_any (is_of session) (filter (λ e. not (is_of session e)) late) ≡ false
            → list_any (is_of session) (cond (not b) (e ∷ filter (λ e. not (is_of session e)) late) (filter (λ e. not (is_of session e)) late)) ≡ false
        by true is rest = rest
        by false is rest = both_not (is_of session e) (list_any (is_of session) (filter (λ e. not (is_of session e)) late)) is rest
