-- What a relay's desk owes, before and after each call.
use Rattle.std.proofs.Common.{◌≡◌, ℕ, List, [], ◌∷◌, ◌++◌, Bool, true, false, ◌&&◌, Option, Some, None, Result, Ok, Err, refl, sym, ap, subst, ◌∙◌, append_assoc, eqb-true, arith}
use Rattle.std.proofs.lemmas.Bool.Decides.{nat_tests}
use Rattle.std.specs.Prelude.{◌==◌, not, map, filter, option_map}
use Rattle.serde_json.specs.Data.{Data}
use Rattle.ovs_wire.specs.declared.message.Message.{Message}
use Rattle.ovs_authority.specs.Answers.{reply_of}
use Rattle.ovs_authority.specs.Owing.{Owing, silent, KeepsAnswers, LeavesOthers, IsOneMore, AsksTo}
use Rattle.ovs_authority.specs.declared.response.Response.{Response}
use Rattle.ovs_lock_desk.specs.RelayLock.{RelayLockValue, no_relay_lock, answer_here, asked_here, AnswersBy, step, is_desk_idle}
use Rattle.ovs_locks.specs.Lock.{stands}
use Rattle.ovs_locks.specs.ByName.{gathered}
use Rattle.ovs_lock_desk.specs.LockDesk.{DeskValue, ChangesAt, relay_lock_at, refusal_at, stepped, open_here, answers_here, notices_here, open_steals, answers_to, notices_to, stands_at}
use Rattle.ovs_lock_desk.specs.declared.lock_state.LockEvent.TheVariants as events
use Rattle.ovs_lock_desk.specs.declared.lock_state.LockVerb.{LockVerb}
use Rattle.ovs_lock_desk.specs.declared.error.DeskError.{DeskError}
use Rattle.ovs_locks.proofs.Gathering.{gathered_old, gathered_new, gathered_same, gathered_changed, none_passes, changed_none_passes, nothing_gathered}
use Rattle.ovs_lock_desk.proofs.DeskOwed as owed
use Rattle.ovs_desk.specs.declared.forwarded.Forwarded.{Forwarded}
use Rattle.ovs_desk.specs.declared.forwarded.RequestFilter.TheVariants.{Due}
use Rattle.ovs_authority.specs.Asks.{transact_request}
use Rattle.ovs_authority.specs.declared.ask.Request.{Request}
use Rattle.ovs_desk.specs.declared.error.ForwardRefused.{ForwardRefused}
use Rattle.ovs_desk.specs.Asserts.{rewritten}
use Rattle.ovs_desk.specs.Calls.{SendsTo, sent_by, with_one_more}
use Rattle.ovs_desk.specs.Ledger.{Forwarding, Ledger, is_open, passes}
use Rattle.ovs_locks.specs.Notices.{message_of}
use Rattle.ovs_desk.specs.RelayDesk.{RelayValue, owing_of, is_open_of, ids_of, late_id, with_forwards}
use Rattle.ovs_desk.specs.Relaying.{AsksByName, IsAnsweredBy, LocksAfter, Transacts, IsSendReply, EndsSession}

-- ---- a session that keeps what it waits for

module _ (d e : RelayValue) (other : ℕ) (requests : e.forwards.ledger.pending ≡ d.forwards.ledger.pending)
    (open_same : open_steals other e.locks.locks ≡ open_steals other d.locks.locks) (known_same : answers_to other e.locks.locks ≡ answers_to other d.locks.locks) where
  pub waits_same : (owing_of e other).waiting ≡ (owing_of d other).waiting
  waits_same i = ids_of (filter (is_open_of other) (requests i)) ++ open_same i

  pub knows_same : (owing_of e other).known ≡ (owing_of d other).known
  knows_same i = ids_of (filter (passes (Due other)) (requests i)) ++ map late_id (known_same i)

pub keeps : (d e : RelayValue) (other : ℕ) → (owing_of e other).waiting ≡ (owing_of d other).waiting → (owing_of e other).known ≡ (owing_of d other).known
    → (stands_at other d.locks.locks ≡ false → stands_at other e.locks.locks ≡ false) → KeepsAnswers (owing_of d other) (owing_of e other)
keeps d e other waits knows alone = record {
  waiting = waits;
  known = knows;
  silence = λ quiet.
      let w : (owing_of e other).waiting ≡ [] = waits ∙ ap (λ (o : Owing). o.waiting) quiet in
      let k : (owing_of e other).known ≡ [] = knows ∙ ap (λ (o : Owing). o.known) quiet in
      let st : stands_at other e.locks.locks ≡ false = alone (ap (λ (o : Owing). o.stands) quiet) in
      let ns : map message_of (notices_to other e.locks.locks) ≡ [] = ap (map message_of) (nothing_gathered is_desk_idle no_relay_lock (λ l. stands other l.lock) (notices_here other) (owed.nothing_told other) e.locks.locks st) in
      (λ i. record { waiting = w i; known = k i; notices = ns i; stands = st i });
}

pub stands_idle : (session : ℕ) (l : RelayLockValue) → is_desk_idle l ≡ true → stands session l.lock ≡ false
stands_idle session l e = let i = owed.idles l e in rw (i.queue, i.stolen) refl

-- ---- asking for a lock

one_more : (id : Data) (f b l a : List Data) → IsOneMore id (f ++ (b ++ (l ++ a))) (f ++ (b ++ ((l ++ id ∷ []) ++ a)))
one_more id f b l a = record {
  before = f ++ (b ++ l);
  after = a;
  was = ap (λ (xs : List Data). f ++ xs) (sym (append_assoc b l a)) ∙ sym (append_assoc f (b ++ l) a);
  now = ap (λ (xs : List Data). f ++ (b ++ xs)) (append_assoc l (id ∷ []) a) ∙ ap (λ (xs : List Data). f ++ xs) (sym (append_assoc b l (id ∷ a))) ∙ sym (append_assoc f (b ++ l) (id ∷ a));
}

module _ (session : ℕ) (verb : LockVerb) (name : List ℕ) (id : Data) (d e : RelayValue) (same : e.forwards ≡ d.forwards) where
  abbrev f : RelayLockValue → RelayLockValue
  f = asked_here d.locks.has_source session verb id

  requests : e.forwards.ledger.pending ≡ d.forwards.ledger.pending
  requests = ap (λ (x : Forwarding). x.ledger.pending) same

  answers_kept : (x : ℕ) → ChangesAt name f d.locks.locks e.locks.locks → answers_to x e.locks.locks ≡ answers_to x d.locks.locks
  answers_kept x c = gathered_same is_desk_idle no_relay_lock (answers_here x) (owed.answers_idle x) name f d.locks.locks e.locks.locks c (owed.answers_asked d.locks.has_source session id c.lock verb x name)

  unchanged : e.locks ≡ d.locks → (x : ℕ) → owing_of e x ≡ owing_of d x
  unchanged locks x i = record {
    waiting = ids_of (filter (is_open_of x) (requests i)) ++ open_steals x (locks i).locks;
    known = ids_of (filter (passes (Due x)) (requests i)) ++ map late_id (answers_to x (locks i).locks);
    notices = map message_of (notices_to x (locks i).locks);
    stands = stands_at x (locks i).locks;
  }

  asks_by : (came : Result (Option Bool) DeskError) (a : Option Response)
      → AnswersBy (refusal_at d.locks.has_source verb session name d.locks.locks) verb (relay_lock_at name d.locks.locks) came → IsAnsweredBy verb came a
      → LocksAfter came session verb name id d.locks e.locks → AsksTo (owing_of d session) id (option_map (λ x. reply_of x id) a) (owing_of e session)
  asks_by (Ok (Some won)) a ans told after =
      let at : Some won ≡ answer_here verb after.0.lock = ans.1 ∙ ap (answer_here verb) (sym after.0.at) in
      let steals = gathered_same is_desk_idle no_relay_lock (open_here session) (owed.open_idle session) name f d.locks.locks e.locks.locks after.0 (owed.open_same d.locks.has_source session id after.0.lock verb won session name at) in
      subst (λ (x : Option Response). AsksTo (owing_of d session) id (option_map (λ x. reply_of x id) x) (owing_of e session)) (sym told)
      (refl, waits_same d e session requests steals (answers_kept session after.0), knows_same d e session requests steals (answers_kept session after.0))
  asks_by (Ok None) a ans told after =
      let c = after.0 in
      let at : None ≡ answer_here verb c.lock = ans.1 ∙ ap (answer_here verb) (sym c.at) in
      let fs = ids_of (filter (is_open_of session) d.forwards.ledger.pending) in
      let b = gathered (open_here session) c.before in
      let l = open_here session name c.lock in
      let later = gathered (open_here session) c.after in
      let was : (owing_of d session).waiting ≡ fs ++ (b ++ (l ++ later)) = ap (λ (xs : List Data). fs ++ xs) (gathered_old is_desk_idle no_relay_lock (open_here session) (owed.open_idle session) name f d.locks.locks e.locks.locks c) in
      let now : (owing_of e session).waiting ≡ fs ++ (b ++ ((l ++ id ∷ []) ++ later)) =
      ap (λ (es : List Forwarded). ids_of (filter (is_open_of session) es) ++ open_steals session e.locks.locks) requests
      ∙ ap (λ (xs : List Data). fs ++ xs) (gathered_new is_desk_idle no_relay_lock (open_here session) (owed.open_idle session) name f d.locks.locks e.locks.locks c
      ∙ ap (λ (xs : List Data). b ++ (xs ++ later)) (owed.open_more d.locks.has_source session id c.lock verb name at)) in
      let more = one_more id fs b l later in
      subst (λ (x : Option Response). AsksTo (owing_of d session) id (option_map (λ x. reply_of x id) x) (owing_of e session)) (sym told) (
        record { before = more.before; after = more.after; was = was ∙ more.was; now = now ∙ more.now },
        (λ i. ids_of (filter (passes (Due session)) (requests i)) ++ map late_id (answers_kept session c i)),
      )
  asks_by (Err error) None ans told after = absurd told
  asks_by (Err error) (Some a) ans told after =
      let all = unchanged after session in
      (refl, ap (λ (o : Owing). o.waiting) all, ap (λ (o : Owing). o.known) all)

  others_by : (came : Result (Option Bool) DeskError) → LocksAfter came session verb name id d.locks e.locks → LeavesOthers session (owing_of d) (owing_of e)
  others_by (Ok answer) after other apart =
      let c = after.0 in
      let steals = gathered_same is_desk_idle no_relay_lock (open_here other) (owed.open_idle other) name f d.locks.locks e.locks.locks c (owed.open_asked d.locks.has_source session id c.lock verb other name apart) in
      keeps d e other (waits_same d e other requests steals (answers_kept other c)) (knows_same d e other requests steals (answers_kept other c))
      (none_passes is_desk_idle no_relay_lock (λ l. stands other l.lock) (stands_idle other) name f d.locks.locks e.locks.locks c (λ l none. owed.stands_asked d.locks.has_source session verb id other apart l none))
  others_by (Err error) after other apart =
      let all = unchanged after other in
      record { waiting = ap (λ (o : Owing). o.waiting) all; known = ap (λ (o : Owing). o.known) all; silence = λ quiet. all ∙ quiet }

pub asked : (session : ℕ) (verb : LockVerb) (name : List ℕ) (id : Data) (d e : RelayValue) (r : Option Message) → AsksByName session verb name id d r e
    → AsksTo (owing_of d session) id r (owing_of e session)
asked session verb name id d e r k =
    let asks = k.asks in
    subst (λ (x : Option Message). AsksTo (owing_of d session) id x (owing_of e session)) (sym k.reply)
    (asks_by session verb name id d e (ap (λ (x : RelayValue). x.forwards) asks.rest) asks.came k.answer asks.answers asks.told asks.after)

pub asked_others : (session : ℕ) (verb : LockVerb) (name : List ℕ) (id : Data) (d e : RelayValue) (r : Option Message) → AsksByName session verb name id d r e
    → LeavesOthers session (owing_of d) (owing_of e)
asked_others session verb name id d e r k = others_by session verb name id d e (ap (λ (x : RelayValue). x.forwards) k.asks.rest) k.asks.came k.asks.after

-- ---- a transaction

module _ (session : ℕ) (operations : List Data) (id : Data) (d e : RelayValue) (r : Option Message) (k : Transacts session operations id d r e) where
  locks_same : e.locks ≡ d.locks
  locks_same = ap (λ (x : RelayValue). x.locks) k.rest

  -- the request that was sent is the asker's own, and waits
  more_pending : (n : ℕ) (request : Request) → e.forwards.ledger ≡ with_one_more d.forwards.ledger (sent_by session id request n) → e.forwards.ledger.pending ≡ d.forwards.ledger.pending ++ sent_by session id request n ∷ []
  more_pending n request then = ap (λ (l : Ledger). l.pending) then

  false_behind : (a b : Bool) → b ≡ false → (a && b) ≡ false
  false_behind true b e = e
  false_behind false b e = refl

  due_same : (x n : ℕ) (request : Request) → e.forwards.ledger ≡ with_one_more d.forwards.ledger (sent_by session id request n)
      → filter (passes (Due x)) e.forwards.ledger.pending ≡ filter (passes (Due x)) d.forwards.ledger.pending
  due_same x n request then =
      ap (filter (passes (Due x))) (more_pending n request then) ∙ owed.filter_last (passes (Due x)) d.forwards.ledger.pending (sent_by session id request n) (false_behind (session == x) false refl)

  known_same : (x n : ℕ) (request : Request) → e.forwards.ledger ≡ with_one_more d.forwards.ledger (sent_by session id request n) → (owing_of e x).known ≡ (owing_of d x).known
  known_same x n request then i = ids_of (due_same x n request then i) ++ map late_id (answers_to x (locks_same i).locks)

  own_open : (session == session) ≡ true
  own_open = grind (arith, nat_tests)

  waits_more : (n : ℕ) (request : Request) → e.forwards.ledger ≡ with_one_more d.forwards.ledger (sent_by session id request n) → IsOneMore id (owing_of d session).waiting (owing_of e session).waiting
  waits_more n request then =
      let es = d.forwards.ledger.pending in
      let x = sent_by session id request n in
      let fs = ids_of (filter (is_open_of session) es) in
      let passes_open : is_open_of session x ≡ true = rw own_open refl in
      let open_now : ids_of (filter (is_open_of session) e.forwards.ledger.pending) ≡ fs ++ id ∷ [] =
      ap (λ (xs : List Forwarded). ids_of (filter (is_open_of session) xs)) (more_pending n request then)
      ∙ ap ids_of (owed.filter_more (is_open_of session) es x passes_open) ∙ owed.map_last (λ (y : Forwarded). y.id) (filter (is_open_of session) es) x in
      record {
        before = fs;
        after = open_steals session d.locks.locks;
        was = refl;
        now = (λ i. open_now i ++ open_steals session (locks_same i).locks) ∙ append_assoc fs (id ∷ []) (open_steals session d.locks.locks);
      }

  same_desk : e.forwards ≡ d.forwards → e ≡ d
  same_desk same = k.rest ∙ ap (with_forwards d) same

  transacts_by : (came : Result ℕ ForwardRefused) → SendsTo d.forwards session id (transact_request d.database (map (rewritten d.locks.locks session) operations)) came e.forwards → IsSendReply came r → AsksTo (owing_of d session) id r (owing_of e session)
  transacts_by (Ok n) sends told =
      let request = transact_request d.database (map (rewritten d.locks.locks session) operations) in
      subst (λ (x : Option Message). AsksTo (owing_of d session) id x (owing_of e session)) (sym told) (waits_more n request sends.2.1, known_same session n request sends.2.1)
  transacts_by (Err u) sends told =
      let all : owing_of e session ≡ owing_of d session = ap (λ (x : RelayValue). owing_of x session) (same_desk sends.3) in
      subst (λ (x : Option Message). AsksTo (owing_of d session) id x (owing_of e session)) (sym told.0) (sends.1, ap (λ (o : Owing). o.waiting) all, ap (λ (o : Owing). o.known) all)

  pub transacted : AsksTo (owing_of d session) id r (owing_of e session)
  transacted = transacts_by k.came k.sends k.told

  others_of_transact : (came : Result ℕ ForwardRefused) → SendsTo d.forwards session id (transact_request d.database (map (rewritten d.locks.locks session) operations)) came e.forwards → LeavesOthers session (owing_of d) (owing_of e)
  others_of_transact (Ok n) sends other apart =
      let request = transact_request d.database (map (rewritten d.locks.locks session) operations) in
      let x = sent_by session id request n in
      let is_not : is_open_of other x ≡ false = rw (owed.another session other apart) refl in
      let open_same : filter (is_open_of other) e.forwards.ledger.pending ≡ filter (is_open_of other) d.forwards.ledger.pending =
      ap (filter (is_open_of other)) (more_pending n request sends.2.1) ∙ owed.filter_last (is_open_of other) d.forwards.ledger.pending x is_not in
      keeps d e other (λ i. ids_of (open_same i) ++ open_steals other (locks_same i).locks) (known_same other n request sends.2.1)
      (λ none. ap (λ l. stands_at other l.locks) locks_same ∙ none)
  others_of_transact (Err u) sends other apart =
      let all : owing_of e other ≡ owing_of d other = ap (λ (x : RelayValue). owing_of x other) (same_desk sends.3) in
      record { waiting = ap (λ (o : Owing). o.waiting) all; known = ap (λ (o : Owing). o.known) all; silence = λ quiet. all ∙ quiet }

  pub transacted_others : LeavesOthers session (owing_of d) (owing_of e)
  transacted_others = others_of_transact k.came k.sends

-- ---- a session that ends

module _ (session : ℕ) (d e : RelayValue) (k : EndsSession session d e) where
  abbrev stays : Forwarded → Bool
  stays x = not (x.asker == session)

  requests_left : e.forwards.ledger.pending ≡ filter stays d.forwards.ledger.pending
  requests_left = ap (λ (l : Ledger). l.pending) k.requests

  locks_left : e.locks.locks ≡ stepped (events.Ended session) d.locks.locks
  locks_left = ap (λ (l : DeskValue). l.locks) k.locks

  and_false : (a b : Bool) → a ≡ false → (a && b) ≡ false
  and_false true b e = absurd cc
  and_false false b e = refl

  not_his : (x : Forwarded) → stays x ≡ true → (x.asker == session) ≡ false
  not_his x n = by (x.asker == session) n
    where
      by : (b : Bool) → not b ≡ true → b ≡ false
      by true n = absurd cc
      by false n = refl

  pub ended_silent : owing_of e session ≡ silent
  ended_silent =
      let a : filter (is_open_of session) e.forwards.ledger.pending ≡ [] =
      ap (filter (is_open_of session)) requests_left ∙ owed.filter_none (is_open_of session) stays (λ x n. and_false (x.asker == session) (is_open x.state) (not_his x n)) d.forwards.ledger.pending in
      let b : filter (passes (Due session)) e.forwards.ledger.pending ≡ [] =
      ap (filter (passes (Due session))) requests_left ∙ owed.filter_none (passes (Due session)) stays (λ x n. and_false (x.asker == session) (not (is_open x.state)) (not_his x n)) d.forwards.ledger.pending in
      (λ i. record { waiting = ids_of (a i) ++ k.gone.steals i; known = ids_of (b i) ++ map late_id (k.gone.answers i); notices = map message_of (k.gone.notices i); stands = k.gone.stands i })

  pub ended_others : LeavesOthers session (owing_of d) (owing_of e)
  ended_others other apart =
      keeps d e other
      (λ i. ids_of (requests_open i) ++ steals i)
      (λ i. ids_of (requests_due i) ++ map late_id (answers i))
      (λ none. ap (stands_at other) locks_left ∙ changed_none_passes is_desk_idle no_relay_lock (λ l. stands other l.lock) (step (events.Ended session)) (λ l n. owed.stands_ended_other session l other n) d.locks.locks none)
    where
      his : (x : Forwarded) → (x.asker == other) ≡ true → stays x ≡ true
      his x is = ap not (by (x.asker == session) refl)
        where
          by : (b : Bool) → (x.asker == session) ≡ b → b ≡ false
          by true same = absurd (apart (sym (eqb-true x.asker other is) ∙ eqb-true x.asker session same))
          by false same = refl

      requests_open : filter (is_open_of other) e.forwards.ledger.pending ≡ filter (is_open_of other) d.forwards.ledger.pending
      requests_open = ap (filter (is_open_of other)) requests_left
          ∙ owed.filter_twice (is_open_of other) stays (λ x is. his x (owed.both (x.asker == other) (is_open x.state) is).0) d.forwards.ledger.pending

      requests_due : filter (passes (Due other)) e.forwards.ledger.pending ≡ filter (passes (Due other)) d.forwards.ledger.pending
      requests_due = ap (filter (passes (Due other))) requests_left
          ∙ owed.filter_twice (passes (Due other)) stays (λ x is. his x (owed.both (x.asker == other) (not (is_open x.state)) is).0) d.forwards.ledger.pending

      steals : open_steals other e.locks.locks ≡ open_steals other d.locks.locks
      steals = ap (gathered (open_here other)) locks_left
          ∙ gathered_changed is_desk_idle no_relay_lock (open_here other) (owed.open_idle other) (step (events.Ended session)) (open_here other) (λ name l. owed.open_ended_other session l other name apart) d.locks.locks

      answers : answers_to other e.locks.locks ≡ answers_to other d.locks.locks
      answers = ap (gathered (answers_here other)) locks_left
          ∙ gathered_changed is_desk_idle no_relay_lock (answers_here other) (owed.answers_idle other) (step (events.Ended session)) (answers_here other) (λ name l. owed.answers_ended_other session l other name apart) d.locks.locks

pub same_others : (session : ℕ) (d e : RelayValue) → e ≡ d → LeavesOthers session (owing_of d) (owing_of e)
same_others session d e same other apart =
    let all : owing_of e other ≡ owing_of d other = ap (λ (x : RelayValue). owing_of x other) same in
    record { waiting = ap (λ (o : Owing). o.waiting) all; known = ap (λ (o : Owing). o.known) all; silence = λ quiet. all ∙ quiet }
