-- What a relay's desk owes, before and after something was collected.
use Rattle.std.proofs.Common.{◌≡◌, ℕ, List, [], ◌∷◌, ◌++◌, Bool, true, false, cond, ◌&&◌, Option, Some, None, refl, sym, ap, subst, ◌∙◌, drop, eqb-true}
use Rattle.std.specs.Prelude.{◌≢◌, ◌==◌, not, map, filter, option_and_then, slice_get}
use Rattle.std.specs.List.{find}
use Rattle.serde_json.specs.Data.{Data}
use Rattle.ovs_wire.specs.declared.message.Message.{Message}
use Rattle.ovs_wire.specs.declared.message.Message.TheVariants as messages
use Rattle.ovs_authority.specs.Answers.{reply_of}
use Rattle.ovs_authority.specs.Owing.{Owing, CollectsTo}
use Rattle.ovs_lock_desk.specs.RelayLock.{no_relay_lock, is_desk_idle, step, desk_owner}
use Rattle.ovs_locks.specs.Lock.{name_told, stands}
use Rattle.ovs_lock_desk.specs.LockDesk.{IsDeskTable, relay_lock_at, open_here, answers_here, notices_here, open_steals, answers_to, notices_to, stands_at}
use Rattle.ovs_lock_desk.specs.declared.lock_state.LockEvent.TheVariants as events
use Rattle.ovs_lock_desk.specs.declared.pending_steal.PendingSteal.{PendingSteal}
use Rattle.ovs_locks.specs.declared.notice.LockNotice.{LockNotice}
use Rattle.ovs_locks.specs.declared.notice.LockNotice.TheVariants.{Locked, Stolen}
use Rattle.ovs_locks.proofs.Gathering.{gathered_same, some_same, first_given, no_first}
use Rattle.ovs_lock_desk.proofs.DeskOwed as owed
use Rattle.ovs_desk.specs.declared.forwarded.Forwarded.{Forwarded}
use Rattle.ovs_desk.specs.declared.forwarded.ForwardedState.{ForwardedState}
use Rattle.ovs_desk.specs.declared.forwarded.ForwardedState.TheVariants.{Waiting, Taken, Answered, Lost}
use Rattle.ovs_desk.specs.declared.forwarded.RequestFilter.TheVariants.{Due}
use Rattle.ovs_desk.specs.Ledger.{Forwarding, Ledger, is_open, passes, without_first, going_back, reply_of as back_of, next_back}
use Rattle.ovs_locks.specs.Notices.{message_of}
use Rattle.ovs_desk.specs.RelayDesk.{RelayValue, owing_of, owner_of, is_open_of, ids_of, late_id}
use Rattle.ovs_desk.specs.Relaying.{late_answer, CollectsSent, CollectsLate, CollectsNotice, CollectsOfLock, CollectsFirst, Collects, GivesLate, GivesNotice}
use Rattle.ovs_desk.proofs.Owed.{stands_idle}
use Rattle.ovs_desk.proofs.Owners.{answer_told_owner, notice_told_owner}
use Rattle.ovs_desk.proofs.Steps.{found_passes, due_state}

-- ---- lists of requests

filter_out : (p q : Forwarded → Bool) → ((x : Forwarded) → q x ≡ true → p x ≡ false) → (xs : List Forwarded) → filter p (without_first q xs) ≡ filter p xs
filter_out p q none [] = refl
filter_out p q none (x ∷ xs) = by (q x) refl (filter_out p q none xs)
  where
    by : (c : Bool) → q x ≡ c → filter p (without_first q xs) ≡ filter p xs → filter p (cond c xs (x ∷ without_first q xs)) ≡ cond (p x) (x ∷ filter p xs) (filter p xs)
    by true so rest = rw (none x so) refl
    by false so rest = ap (λ (zs : List Forwarded). cond (p x) (x ∷ zs) zs) rest

-- the one that is found is the first of those that pass
found_first : (p : Forwarded → Bool) (xs : List Forwarded) (r : Forwarded) → find p xs ≡ Some r → filter p xs ≡ r ∷ filter p (without_first p xs)
found_first p [] r e = absurd cc
found_first p (x ∷ xs) r e = by (p x) refl e (found_first p xs r)
  where
    by : (c : Bool) → p x ≡ c → cond c (Some x) (find p xs) ≡ Some r → (find p xs ≡ Some r → filter p xs ≡ r ∷ filter p (without_first p xs))
        → cond c (x ∷ filter p xs) (filter p xs) ≡ r ∷ filter p (cond c xs (x ∷ without_first p xs))
    by true so h more = (let same : x ≡ r = cc in ap (λ (z : Forwarded). z ∷ filter p xs) same)
    by false so h more = more h ∙ ap (λ (zs : List Forwarded). r ∷ zs) (rw so refl)

none_found : (p : Forwarded → Bool) (xs : List Forwarded) → find p xs ≡ None → filter p xs ≡ []
none_found p [] e = refl
none_found p (x ∷ xs) e = by (p x) e (none_found p xs)
  where
    by : (c : Bool) → cond c (Some x) (find p xs) ≡ None → (find p xs ≡ None → filter p xs ≡ []) → cond c (x ∷ filter p xs) (filter p xs) ≡ []
    by true h more = absurd cc
    by false h more = more h

-- ---- answers to what was passed on

due_not_open : (session x : ℕ) (r : Forwarded) → passes (Due session) r ≡ true → is_open_of x r ≡ false
due_not_open session x r e = and_false (r.asker == x) (is_open r.state) (due_state session r e)
  where
    and_false : (a b : Bool) → b ≡ false → (a && b) ≡ false
    and_false true b e = e
    and_false false b e = refl

due_not_other : (session other : ℕ) → other ≢ session → (r : Forwarded) → passes (Due session) r ≡ true → passes (Due other) r ≡ false
due_not_other session other apart r e = by (r.asker == other) refl
  where
    by : (b : Bool) → (r.asker == other) ≡ b → (b && not (is_open r.state)) ≡ false
    by true is = absurd (apart (sym (eqb-true r.asker other is) ∙ eqb-true r.asker session (owed.both (r.asker == session) (not (is_open r.state)) e).0))
    by false is = refl

no_answer : (id : Data) (s : ForwardedState) → is_open s ≡ false → going_back id s ≡ None → ⊥
no_answer id (Waiting request) e h = absurd cc
no_answer id Taken e h = absurd cc
no_answer id (Answered answer) e h = absurd cc
no_answer id Lost e h = absurd cc

-- where none goes back, none is due
pub none_due : (session : ℕ) (l : Ledger) → None ≡ next_back session l → filter (passes (Due session)) l.pending ≡ []
none_due session l e = by (find (passes (Due session)) l.pending) refl
  where
    by : (o : Option Forwarded) → find (passes (Due session)) l.pending ≡ o → filter (passes (Due session)) l.pending ≡ []
    by None is = none_found (passes (Due session)) l.pending is
    by (Some r) is =
        absurd (no_answer r.id r.state (due_state session r (found_passes (passes (Due session)) l.pending r is)) (sym (ap (option_and_then back_of) is) ∙ sym e))

module _ (session : ℕ) (d e : RelayValue) (m : Option Message) (k : CollectsSent session d m e) where
  left : e.forwards.ledger.pending ≡ without_first (passes (Due session)) d.forwards.ledger.pending
  left = ap (λ (l : Ledger). l.pending) k.1.0.1

  locks : e.locks ≡ d.locks
  locks = ap (λ (x : RelayValue). x.locks) k.1.1

  pub sent_others : (other : ℕ) → other ≢ session → owing_of e other ≡ owing_of d other
  sent_others other apart =
      let a = ap (filter (is_open_of other)) left ∙ filter_out (is_open_of other) (passes (Due session)) (λ r due. due_not_open session other r due) d.forwards.ledger.pending in
      let b = ap (filter (passes (Due other))) left ∙ filter_out (passes (Due other)) (passes (Due session)) (λ r due. due_not_other session other apart r due) d.forwards.ledger.pending in
      (λ i. record {
        waiting = ids_of (a i) ++ open_steals other (locks i).locks;
        known = ids_of (b i) ++ map late_id (answers_to other (locks i).locks);
        notices = map message_of (notices_to other (locks i).locks);
        stands = stands_at other (locks i).locks;
      })

  waits : (owing_of e session).waiting ≡ (owing_of d session).waiting
  waits =
      let a = ap (filter (is_open_of session)) left ∙ filter_out (is_open_of session) (passes (Due session)) (λ r due. due_not_open session session r due) d.forwards.ledger.pending in
      (λ i. ids_of (a i) ++ open_steals session (locks i).locks)

  by_state : (r : Forwarded) (s : ForwardedState) (x : Message) → Some x ≡ going_back r.id s → (owing_of d session).known ≡ r.id ∷ (owing_of e session).known → CollectsTo (owing_of d session) (Some x) (owing_of e session)
  by_state r (Waiting request) x h known = absurd cc
  by_state r Taken x h known = absurd cc
  by_state r (Answered answer) x h known =
      let same : x ≡ messages.Reply answer.answer.result answer.answer.error r.id = cc in
      subst (λ (y : Message). CollectsTo (owing_of d session) (Some y) (owing_of e session)) (sym same)
      (known, waits, ap (λ l. map message_of (notices_to session l.locks)) locks, ap (λ l. stands_at session l.locks) locks)
  by_state r Lost x h known =
      let answer = late_answer None in
      let same : x ≡ messages.Reply answer.result answer.error r.id = cc in
      subst (λ (y : Message). CollectsTo (owing_of d session) (Some y) (owing_of e session)) (sym same)
      (known, waits, ap (λ l. map message_of (notices_to session l.locks)) locks, ap (λ l. stands_at session l.locks) locks)

  pub sent_given : (x : Message) → m ≡ Some x → CollectsTo (owing_of d session) (Some x) (owing_of e session)
  sent_given x some = by (find (passes (Due session)) d.forwards.ledger.pending) refl
    where
      by : (o : Option Forwarded) → find (passes (Due session)) d.forwards.ledger.pending ≡ o → CollectsTo (owing_of d session) (Some x) (owing_of e session)
      by None is = absurd (let clash = sym some ∙ k.0 ∙ ap (option_and_then back_of) is in cc)
      by (Some r) is =
          by_state r r.state x (sym some ∙ k.0 ∙ ap (option_and_then back_of) is)
          (ap (λ (es : List Forwarded). ids_of es ++ map late_id (answers_to session d.locks.locks)) (found_first (passes (Due session)) d.forwards.ledger.pending r is)
          ∙ (λ i. r.id ∷ (ids_of (filter (passes (Due session)) (sym left i)) ++ map late_id (answers_to session (sym locks i).locks))))

-- ---- answers and notices of locks

first_rest : {X : Type 0} (xs : List X) (x : X) → slice_get xs 0 ≡ Some x → xs ≡ x ∷ drop 1 xs
first_rest [] x e = absurd cc
first_rest (y ∷ ys) x e = (let same : y ≡ x = cc in ap (λ z. z ∷ ys) same)

module _ (session : ℕ) (d e : RelayValue) (m : Option Message) (table : IsDeskTable d.locks.locks) (k : CollectsLate session d m e) where
  given_late : (x : Message) → m ≡ Some x → filter (passes (Due session)) d.forwards.ledger.pending ≡ []
      → (o : Option (List ℕ × PendingSteal)) → slice_get (answers_to session d.locks.locks) 0 ≡ o → GivesLate o session d m e → CollectsTo (owing_of d session) (Some x) (owing_of e session)
  given_late x some none None is g = absurd (let clash = sym some ∙ g.0 in cc)
  given_late x some none (Some a) is g =
      let c = g.1.0 in
      let same : e.forwards ≡ d.forwards = ap (λ (z : RelayValue). z.forwards) g.1.2 in
      let reply : x ≡ reply_of (late_answer a.1.outcome) a.1.id = (let two = sym some ∙ g.0 in cc) in
      let rest = first_given is_desk_idle no_relay_lock (answers_here session) (λ (p : List ℕ × PendingSteal). p.0) (owed.named_answer session) (owed.answers_idle session) (step (events.AnswerTold session)) d.locks.locks e.locks.locks a table.ascend table.none_idle is (λ l. owed.answer_given session a.0 l) c in
      let steals = gathered_same is_desk_idle no_relay_lock (open_here session) (owed.open_idle session) a.0 (step (events.AnswerTold session)) d.locks.locks e.locks.locks c (owed.open_told session a.0 c.lock session) in
      let notices = gathered_same is_desk_idle no_relay_lock (notices_here session) (owed.notices_idle session) a.0 (step (events.AnswerTold session)) d.locks.locks e.locks.locks c refl in
      let stand = some_same is_desk_idle no_relay_lock (λ l. stands session l.lock) (stands_idle session) a.0 (step (events.AnswerTold session)) d.locks.locks e.locks.locks c refl in
      let none_after : filter (passes (Due session)) e.forwards.ledger.pending ≡ [] = ap (λ (z : Forwarding). filter (passes (Due session)) z.ledger.pending) same ∙ none in
      subst (λ (y : Message). CollectsTo (owing_of d session) (Some y) (owing_of e session)) (sym reply) (
        ap (λ (es : List Forwarded). ids_of es ++ map late_id (answers_to session d.locks.locks)) none
            ∙ ap (map late_id) (first_rest (answers_to session d.locks.locks) a is)
            ∙ ap (λ (rs : List (List ℕ × PendingSteal)). a.1.id ∷ map late_id rs) (sym rest)
            ∙ ap (λ (es : List Forwarded). a.1.id ∷ (ids_of es ++ map late_id (answers_to session e.locks.locks))) (sym none_after),
        (λ i. ids_of (filter (is_open_of session) (same i).ledger.pending) ++ steals i),
        ap (map message_of) notices,
        stand,
      )

  pub late_given : (x : Message) → m ≡ Some x → filter (passes (Due session)) d.forwards.ledger.pending ≡ [] → CollectsTo (owing_of d session) (Some x) (owing_of e session)
  late_given x some none = given_late x some none (slice_get (answers_to session d.locks.locks) 0) refl k

  others_late : (o : Option (List ℕ × PendingSteal)) → GivesLate o session d m e → (other : ℕ) → other ≢ session → owing_of e other ≡ owing_of d other
  others_late None g other apart = ap (λ (z : RelayValue). owing_of z other) g.1
  others_late (Some a) g other apart =
      let c = g.1.0 in
      let same : e.forwards ≡ d.forwards = ap (λ (z : RelayValue). z.forwards) g.1.2 in
      let f = step (events.AnswerTold session) in
      let steals = gathered_same is_desk_idle no_relay_lock (open_here other) (owed.open_idle other) a.0 f d.locks.locks e.locks.locks c (owed.open_told session a.0 c.lock other) in
      let answers = gathered_same is_desk_idle no_relay_lock (answers_here other) (owed.answers_idle other) a.0 f d.locks.locks e.locks.locks c (owed.answer_told_other session a.0 c.lock other apart) in
      let notices = gathered_same is_desk_idle no_relay_lock (notices_here other) (owed.notices_idle other) a.0 f d.locks.locks e.locks.locks c refl in
      let stand = some_same is_desk_idle no_relay_lock (λ l. stands other l.lock) (stands_idle other) a.0 f d.locks.locks e.locks.locks c refl in
      (λ i. record {
        waiting = ids_of (filter (is_open_of other) (same i).ledger.pending) ++ steals i;
        known = ids_of (filter (passes (Due other)) (same i).ledger.pending) ++ map late_id (answers i);
        notices = map message_of (notices i);
        stands = stand i;
      })

  pub late_others : (other : ℕ) → other ≢ session → owing_of e other ≡ owing_of d other
  late_others = others_late (slice_get (answers_to session d.locks.locks) 0) k

  none_late_by : (o : Option (List ℕ × PendingSteal)) → slice_get (answers_to session d.locks.locks) 0 ≡ o → GivesLate o session d m e → m ≡ None → answers_to session d.locks.locks ≡ []
  none_late_by None is g none = no_first (answers_to session d.locks.locks) is
  none_late_by (Some a) is g none = absurd (let clash = sym none ∙ g.0 in cc)

  pub none_late : m ≡ None → answers_to session d.locks.locks ≡ []
  none_late none = none_late_by (slice_get (answers_to session d.locks.locks) 0) refl k none

is_notice : (n : LockNotice) (old new : Owing) → old.known ≡ [] → old.notices ≡ message_of n ∷ new.notices → new.waiting ≡ old.waiting → new.known ≡ [] → new.stands ≡ old.stands
    → CollectsTo old (Some (message_of n)) new
is_notice (Locked name) old new a b c d e = (a, b, c, d, e)
is_notice (Stolen name) old new a b c d e = (a, b, c, d, e)

module _ (session : ℕ) (d e : RelayValue) (m : Option Message) (table : IsDeskTable d.locks.locks) (k : CollectsNotice session d m e)
    (none : filter (passes (Due session)) d.forwards.ledger.pending ≡ []) (no_late : answers_to session d.locks.locks ≡ []) where
  nothing_known : (owing_of d session).known ≡ []
  nothing_known i = ids_of (none i) ++ map late_id (no_late i)

  given_notice : (o : Option LockNotice) → slice_get (notices_to session d.locks.locks) 0 ≡ o → GivesNotice o session d m e → CollectsTo (owing_of d session) m (owing_of e session)
  given_notice None is g =
      subst (λ (y : Option Message). CollectsTo (owing_of d session) y (owing_of e session)) (sym g.0)
      (nothing_known, ap (map message_of) (no_first (notices_to session d.locks.locks) is), ap (λ (z : RelayValue). owing_of z session) g.1)
  given_notice (Some n) is g =
      let c = g.1.0 in
      let f = step (events.NoticeTold session) in
      let same : e.forwards ≡ d.forwards = ap (λ (z : RelayValue). z.forwards) g.1.2 in
      let rest = first_given is_desk_idle no_relay_lock (notices_here session) name_told (owed.named_notice session) (owed.notices_idle session) f d.locks.locks e.locks.locks n table.ascend table.none_idle is (λ l. owed.notice_given session (name_told n) l) c in
      let steals = gathered_same is_desk_idle no_relay_lock (open_here session) (owed.open_idle session) (name_told n) f d.locks.locks e.locks.locks c refl in
      let answers = gathered_same is_desk_idle no_relay_lock (answers_here session) (owed.answers_idle session) (name_told n) f d.locks.locks e.locks.locks c refl in
      let stand = some_same is_desk_idle no_relay_lock (λ l. stands session l.lock) (stands_idle session) (name_told n) f d.locks.locks e.locks.locks c (owed.stands_told session (name_told n) c.lock session) in
      subst (λ (y : Option Message). CollectsTo (owing_of d session) y (owing_of e session)) (sym g.0)
      (is_notice n (owing_of d session) (owing_of e session) nothing_known
      (ap (map message_of) (first_rest (notices_to session d.locks.locks) n is) ∙ ap (λ (ns : List LockNotice). message_of n ∷ map message_of ns) (sym rest))
      (λ i. ids_of (filter (is_open_of session) (same i).ledger.pending) ++ steals i)
      ((λ i. ids_of (filter (passes (Due session)) (same i).ledger.pending) ++ map late_id (answers i)) ∙ nothing_known)
      stand)

  pub notice_given : CollectsTo (owing_of d session) m (owing_of e session)
  notice_given = given_notice (slice_get (notices_to session d.locks.locks) 0) refl k

module _ (session : ℕ) (d e : RelayValue) (m : Option Message) where
  others_notice : (o : Option LockNotice) → GivesNotice o session d m e → (other : ℕ) → other ≢ session → owing_of e other ≡ owing_of d other
  others_notice None g other apart = ap (λ (z : RelayValue). owing_of z other) g.1
  others_notice (Some n) g other apart =
      let c = g.1.0 in
      let f = step (events.NoticeTold session) in
      let same : e.forwards ≡ d.forwards = ap (λ (z : RelayValue). z.forwards) g.1.2 in
      let steals = gathered_same is_desk_idle no_relay_lock (open_here other) (owed.open_idle other) (name_told n) f d.locks.locks e.locks.locks c refl in
      let answers = gathered_same is_desk_idle no_relay_lock (answers_here other) (owed.answers_idle other) (name_told n) f d.locks.locks e.locks.locks c refl in
      let notices = gathered_same is_desk_idle no_relay_lock (notices_here other) (owed.notices_idle other) (name_told n) f d.locks.locks e.locks.locks c (owed.notice_told_other session (name_told n) c.lock other apart) in
      let stand = some_same is_desk_idle no_relay_lock (λ l. stands other l.lock) (stands_idle other) (name_told n) f d.locks.locks e.locks.locks c (owed.stands_told session (name_told n) c.lock other) in
      (λ i. record {
        waiting = ids_of (filter (is_open_of other) (same i).ledger.pending) ++ steals i;
        known = ids_of (filter (passes (Due other)) (same i).ledger.pending) ++ map late_id (answers i);
        notices = map message_of (notices i);
        stands = stand i;
      })

  pub notice_others : CollectsNotice session d m e → (other : ℕ) → other ≢ session → owing_of e other ≡ owing_of d other
  notice_others k = others_notice (slice_get (notices_to session d.locks.locks) 0) k

-- ---- owners, and what is given by which rule

module _ (session : ℕ) (d e : RelayValue) (table : IsDeskTable d.locks.locks) where
  late_owner : (o : Option (List ℕ × PendingSteal)) (m : Option Message) → GivesLate o session d m e → (name : List ℕ) → owner_of e name ≡ owner_of d name
  late_owner None m g name = ap (λ (z : RelayValue). owner_of z name) g.1
  late_owner (Some a) m g name = answer_told_owner session a.0 d.locks.locks e.locks.locks table g.1.0 name

  pub late_owners : (m : Option Message) → CollectsLate session d m e → (name : List ℕ) → owner_of e name ≡ owner_of d name
  late_owners m k = late_owner (slice_get (answers_to session d.locks.locks) 0) m k

  notice_owner : (o : Option LockNotice) (m : Option Message) → GivesNotice o session d m e → (name : List ℕ) → owner_of e name ≡ owner_of d name
  notice_owner None m g name = ap (λ (z : RelayValue). owner_of z name) g.1
  notice_owner (Some n) m g name = notice_told_owner session (name_told n) d.locks.locks e.locks.locks table g.1.0 name

  pub notice_owners : (m : Option Message) → CollectsNotice session d m e → (name : List ℕ) → owner_of e name ≡ owner_of d name
  notice_owners m k = notice_owner (slice_get (notices_to session d.locks.locks) 0) m k

pub sent_owners : (session : ℕ) (d e : RelayValue) (m : Option Message) → CollectsSent session d m e → (name : List ℕ) → owner_of e name ≡ owner_of d name
sent_owners session d e m k name = ap (λ (z : RelayValue). desk_owner (relay_lock_at name z.locks.locks)) k.1.1

-- a late answer is given where there is one
pub late_first : (session : ℕ) (d e : RelayValue) (m : Option Message) (x : Message) → m ≡ Some x → CollectsLate session d m e
    → CollectsOfLock (slice_get (answers_to session d.locks.locks) 0) session d (Some x) e
late_first session d e m x some k = by (slice_get (answers_to session d.locks.locks) 0) refl k
  where
    by : (o : Option (List ℕ × PendingSteal)) → slice_get (answers_to session d.locks.locks) 0 ≡ o → GivesLate o session d m e → CollectsOfLock o session d (Some x) e
    by None is g = absurd (let clash = sym some ∙ g.0 in cc)
    by (Some a) is g = subst (λ (y : Option Message). CollectsLate session d y e) some k

pub sent_first : (session : ℕ) (d e : RelayValue) (m : Option Message) (x : Message) → m ≡ Some x → CollectsSent session d m e → Collects session d (Some x) e
sent_first session d e m x some k =
    subst (λ (o : Option Message). CollectsFirst o session d (Some x) e) (sym some ∙ k.0) (subst (λ (y : Option Message). CollectsSent session d y e) some k)
