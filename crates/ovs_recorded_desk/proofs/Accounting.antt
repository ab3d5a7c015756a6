-- The steps of a relay's desk as calls on the requests that are passed on.
use Rattle.std.proofs.Common.{◌≡◌, ℕ, List, [], ◌∷◌, ◌++◌, Bool, true, false, Option, Some, None, Result, Ok, Err, refl, sym, ap, subst, ◌∙◌, arith, inl, inr}
use Rattle.std.specs.Prelude.{◌⊎◌, ⊤, nat_lt, map, option_and_then, slice_get, codes}
use Rattle.serde_json.specs.Data.{Data}
use Rattle.serde_json.specs.View.{view}
use Rattle.ovs_wire.specs.declared.message.Message.{Message}
use Rattle.ovs_authority.specs.Answers.{refused, reply_of}
use Rattle.ovs_authority.specs.Asks.{transact_request}
use Rattle.ovs_authority.specs.declared.ask.Verb.{Verb}
use Rattle.ovs_authority.specs.declared.ask.Verb.TheVariants as asks
use Rattle.ovs_locks.specs.declared.notice.LockNotice.{LockNotice}
use Rattle.ovs_lock_desk.specs.LockDesk.{answers_to, notices_to, first_due_up, is_sent_at}
use Rattle.ovs_lock_desk.specs.declared.lock_state.LockReply.{LockReply}
use Rattle.ovs_lock_desk.specs.declared.lock_state.LockVerb.{LockVerb}
use Rattle.ovs_lock_desk.specs.declared.lock_state.LockVerb.TheVariants as verbs
use Rattle.ovs_lock_desk.specs.declared.pending_steal.PendingSteal.{PendingSteal}
use Rattle.ovs_desk.specs.Asserts.{rewritten}
use Rattle.ovs_desk.specs.Calls.{Call, Sends, TakesUp, Replies, LosesSource, Collects, Ends, After, SendsTo}
use Rattle.ovs_desk.specs.Ledger as ledger
use Rattle.ovs_desk.specs.Ledger.{Ledger, Forwarding, to_go, due_to, next_up, next_back}
use Rattle.ovs_desk.specs.RelayDesk.{RelayValue, new_desk}
use Rattle.ovs_desk.specs.Relaying as relaying
use Rattle.ovs_desk.specs.Relaying.{first_lock, lock_reply}
use Rattle.ovs_desk.specs.Runs.{Runs, no_request}
use Rattle.ovs_desk.specs.declared.error.BadReply.{BadReply}
use Rattle.ovs_desk.specs.declared.error.ForwardRefused.{ForwardRefused}
use Rattle.ovs_desk.specs.declared.forwarded.Forwarded.{Forwarded}
use Rattle.ovs_desk.specs.declared.source_message.SourceMessage.{SourceMessage}
use Rattle.ovs_desk.specs.declared.source_message.SourceMessage.TheVariants as says
use Rattle.ovs_desk.specs.declared.standing.StandingAnswer.{StandingAnswer}
use Rattle.ovs_desk.proofs.LedgerOrder.{in_order}
use Rattle.ovs_desk.proofs.LedgerRuns.{rises, once, own, ended}
use Rattle.ovs_recorded_desk.specs.LedgerCalls.{IsAskedBy, IsGivenReply, IsGivenOfLocks, IsTakenUp, IsUpOfLocks, IsRepliedBy, IsHeardBy, IsMadeBy, AreMadeBy, IsAccounted}
use Rattle.ovs_recorded_desk.specs.Steps.{Does, DoesAll, AreSteps}
use Rattle.ovs_recorded_desk.specs.declared.step.DeskStep.{DeskStep}
use Rattle.ovs_recorded_desk.specs.declared.step.DeskStep.TheVariants as steps
use Rattle.ovs_recorded_desk.proofs.Closing.{all_closed}

-- ---- runs of calls

one_call : (c : Call) (l m : Ledger) → After c l m → Runs l (c ∷ []) m
one_call c l m after = (m, after, refl)

runs_append : (xs ys : List Call) (l k m : Ledger) → Runs l xs k → Runs k ys m → Runs l (xs ++ ys) m
runs_append [] ys l k m first then = subst (λ x. Runs x ys m) first then
runs_append (c ∷ xs) ys l k m (h, after, first) then = (h, after, runs_append xs ys h k m first then)

-- ---- one step

-- these calls are those of the step, and lead from the requests of one desk to those of the other, whose database is the same
record Made (P : List Call → Type 0) (d e : RelayValue) : Type 0 where
  calls : List Call
  made : P calls
  run : Runs d.forwards.ledger calls e.forwards.ledger
  same : e.database ≡ d.database

-- no call, where the requests are as they were
no_call : (P : List Call → Type 0) (d e : RelayValue) → P [] → e.forwards ≡ d.forwards → e.database ≡ d.database → Made P d e
no_call P d e made forwards same = record { calls = []; made = made; run = ap (λ (f : Forwarding). f.ledger) forwards; same = same }

by_call : (P : List Call → Type 0) (c : Call) (d e : RelayValue) → P (c ∷ []) → After c d.forwards.ledger e.forwards.ledger → e.database ≡ d.database → Made P d e
by_call P c d e made after same = record { calls = c ∷ []; made = made; run = one_call c d.forwards.ledger e.forwards.ledger after; same = same }

abbrev database_of : RelayValue → List ℕ
database_of d = d.database

abbrev forwards_of : RelayValue → Forwarding
forwards_of d = d.forwards

-- ---- asking

transacted : (session : ℕ) (operations : List Data) (id : Data) (d e : RelayValue) (r : Option Message) (P : Option Message → List Call → Type 0)
    → ((n : ℕ) → P None (Sends session id (transact_request d.database (map (rewritten d.locks.locks session) operations)) n ∷ []))
    → ((m : Message) → P (Some m) []) → relaying.Transacts session operations id d r e → Made (P r) d e
transacted session operations id d e r P sent unsent t = by t.came t.sends t.told
  where
    same : e.database ≡ d.database
    same = ap database_of t.rest

    by : (came : Result ℕ ForwardRefused) → SendsTo d.forwards session id (transact_request d.database (map (rewritten d.locks.locks session) operations)) came e.forwards
        → relaying.IsSendReply came r → Made (P r) d e
    by (Ok n) (free, is, after) told =
        subst (λ x. Made (P x) d e) (sym told)
        (by_call (P None) (Sends session id (transact_request d.database (map (rewritten d.locks.locks session) operations)) n) d e (sent n) after same)
    by (Err u) (cause, its_id, its_request, forwards) (told, why) =
        subst (λ x. Made (P x) d e) (sym told)
        (no_call (P (Some (reply_of (refused (codes "too many requests")) u.id))) d e (unsent (reply_of (refused (codes "too many requests")) u.id)) forwards same)

by_name : (session : ℕ) (verb : LockVerb) (name : List ℕ) (id : Data) (d e : RelayValue) (r : Option Message) (P : List Call → Type 0) → P []
    → relaying.AsksByName session verb name id d r e → Made P d e
by_name session verb name id d e r P none a = no_call P d e none (ap forwards_of a.asks.rest) (ap database_of a.asks.rest)

asked : (session : ℕ) (id : Data) (verb : Verb) (r : Option Message) (d e : RelayValue) → relaying.Asks session id verb d r e → Made (IsAskedBy d.database session id verb r) d e
asked session id (asks.Transact operations) r d e t =
    transacted session (map view operations.items) id d e r (λ x made. IsAskedBy d.database session id (asks.Transact operations) x made)
    (λ n. record { number = n; locks = d.locks.locks; calls = refl }) (λ m. refl) t
asked session id (asks.Lock name) r d e a = by_name session verbs.Lock name id d e r (IsAskedBy d.database session id (asks.Lock name) r) refl a
asked session id (asks.Steal name) r d e a = by_name session verbs.Steal name id d e r (IsAskedBy d.database session id (asks.Steal name) r) refl a
asked session id (asks.Unlock name) r d e a = by_name session verbs.Unlock name id d e r (IsAskedBy d.database session id (asks.Unlock name) r) refl a

-- ---- what is given to a session

module _ (session : ℕ) (m : Option Message) (d e : RelayValue) where
  abbrev Given : List Call → Type 0
  Given made = IsGivenReply session m made ⊎ ((made ≡ []) × IsGivenOfLocks m)

  of_locks : IsGivenOfLocks m → e.forwards ≡ d.forwards → e.database ≡ d.database → Made Given d e
  of_locks given forwards same = no_call Given d e (inr (refl, given)) forwards same

  nothing : m ≡ None → e ≡ d → Made Given d e
  nothing none unchanged = of_locks (subst IsGivenOfLocks (sym none) tt) (ap forwards_of unchanged) (ap database_of unchanged)

  late : (a : Option (List ℕ × PendingSteal)) → relaying.GivesLate a session d m e → Made Given d e
  late None (none, unchanged) = nothing none unchanged
  late (Some a) (is, (change, has, rest)) =
      of_locks (subst IsGivenOfLocks (sym is) (inl (record { outcome = a.1.outcome; id = a.1.id; is = refl }))) (ap forwards_of rest) (ap database_of rest)

  notice : (n : Option LockNotice) → relaying.GivesNotice n session d m e → Made Given d e
  notice None (none, unchanged) = nothing none unchanged
  notice (Some n) (is, (change, has, rest)) =
      of_locks (subst IsGivenOfLocks (sym is) (inr (record { notice = n; is = refl }))) (ap forwards_of rest) (ap database_of rest)

  of_lock : (a : Option (List ℕ × PendingSteal)) → relaying.CollectsOfLock a session d m e → Made Given d e
  of_lock None c = notice (slice_get (notices_to session d.locks.locks) 0) c
  of_lock (Some a) c = late (slice_get (answers_to session d.locks.locks) 0) c

  given_reply : (reply : Message) (due : Option Forwarded) → due_to session d.forwards.ledger ≡ due → next_back session d.forwards.ledger ≡ Some reply
      → m ≡ next_back session d.forwards.ledger → After (Collects session due) d.forwards.ledger e.forwards.ledger → e.database ≡ d.database → Made Given d e
  given_reply reply None is some given after same =
      let none : next_back session d.forwards.ledger ≡ None = ap (option_and_then ledger.reply_of) is in
      absurd (cc (none, some))
  given_reply reply (Some request) is some given after same =
      by_call Given (Collects session (Some request)) d e (inl (record { request = request; calls = refl; reply = given ∙ ap (option_and_then ledger.reply_of) is })) after same

  given : (reply : Option Message) → next_back session d.forwards.ledger ≡ reply → relaying.CollectsFirst reply session d m e → Made Given d e
  given None is c = of_lock (slice_get (answers_to session d.locks.locks) 0) c
  given (Some reply) is (told, (after, rest)) =
      given_reply reply (due_to session d.forwards.ledger) refl is told after (ap database_of rest)

-- ---- what goes up

module _ (m : Option Message) (d e : RelayValue) where
  abbrev Up : List Call → Type 0
  Up made = IsTakenUp m made ⊎ ((made ≡ []) × IsUpOfLocks m)

  nothing_up : m ≡ None → e ≡ d → Made Up d e
  nothing_up none unchanged = no_call Up d e (inr (refl, subst IsUpOfLocks (sym none) tt)) (ap forwards_of unchanged) (ap database_of unchanged)

  due_up : (due : Option (List ℕ × LockVerb)) → relaying.TakesUpDue due d m e → Made Up d e
  due_up None (none, unchanged) = nothing_up none unchanged
  due_up (Some due) (is, sends, rest) =
      no_call Up d e (inr (refl, subst IsUpOfLocks (sym is) (record { before = d.asked; verb = due.1; name = due.0; is = refl }))) (ap forwards_of rest) (ap database_of rest)

  lock_up : (below : Bool) → relaying.TakesUpBelow below d m e → Made Up d e
  lock_up true t = due_up (first_due_up d.locks.locks) t
  lock_up false (none, unchanged) = nothing_up none unchanged

  request_up : (up : Message) (first : Option Forwarded) → to_go d.forwards.ledger ≡ first → next_up d.forwards.ledger ≡ Some up → m ≡ Some up
      → After (TakesUp first) d.forwards.ledger e.forwards.ledger → e.database ≡ d.database → Made Up d e
  request_up up None is some given after same =
      let none : next_up d.forwards.ledger ≡ None = ap (option_and_then ledger.message_of) is in
      absurd (cc (none, some))
  request_up up (Some request) is some given after same =
      by_call Up (TakesUp (Some request)) d e
      (inl (record { request = request; calls = refl; up = given ∙ sym some ∙ ap (option_and_then ledger.message_of) is })) after same

  first_up : (up : Option Message) → next_up d.forwards.ledger ≡ up → relaying.TakesUpFirst up d m e → Made Up d e
  first_up None is t = lock_up (nat_lt d.asked first_lock) t
  first_up (Some up) is (given, (after, rest)) = request_up up (to_go d.forwards.ledger) refl is given after (ap database_of rest)

  gone_up : (has : Bool) → relaying.TakesUpWhere has d m e → Made Up d e
  gone_up true t = first_up (next_up d.forwards.ledger) refl t
  gone_up false (none, unchanged) = nothing_up none unchanged

-- ---- what is heard

lock_replied : (reply : Option LockReply) (P : List Call → Type 0) (n : ℕ) (d : RelayValue) (r : Result ⊤ BadReply) (e : RelayValue) → P [] → relaying.HearsLockReply reply n d r e → Made P d e
lock_replied None P n d r e none (bad, unchanged) = no_call P d e none (ap forwards_of unchanged) (ap database_of unchanged)
lock_replied (Some reply) P n d r e none (fine, rest) = no_call P d e none (ap forwards_of rest) (ap database_of rest)

replied : (below : Bool) (n : ℕ) (answer : StandingAnswer) (d : RelayValue) (r : Result ⊤ BadReply) (e : RelayValue) → relaying.HearsBy below n answer d r e
    → Made (IsRepliedBy below n answer) d e
replied true n answer d r e (fine, (after, rest)) = by_call (IsRepliedBy true n answer) (Replies n answer) d e refl after (ap database_of rest)
replied false n answer d r e h = by (is_sent_at n d.locks.locks) h
  where
    by : (b : Bool) → relaying.HearsOfLock b n answer.answer d r e → Made (IsRepliedBy false n answer) d e
    by false (fine, unchanged) = no_call (IsRepliedBy false n answer) d e refl (ap forwards_of unchanged) (ap database_of unchanged)
    by true h = lock_replied (lock_reply answer.answer) (IsRepliedBy false n answer) n d r e refl h

heard : (message : SourceMessage) (d : RelayValue) (r : Result ⊤ BadReply) (e : RelayValue) → relaying.Hears message d r e → Made (IsHeardBy message) d e
heard (says.ReplyFor n answer) d r e h = replied (nat_lt n first_lock) n answer d r e h
heard (says.Locked name) d r e (fine, (change, has, rest)) = no_call (IsHeardBy (says.Locked name)) d e refl (ap forwards_of rest) (ap database_of rest)
heard (says.Stolen name) d r e (fine, (change, has, rest)) = no_call (IsHeardBy (says.Stolen name)) d e refl (ap forwards_of rest) (ap database_of rest)

-- ---- all steps

step_calls : (s : DeskStep) (d e : RelayValue) → Does s d e → Made (IsMadeBy d.database s) d e
step_calls (steps.Asked session ask reply) d e does = asked session ask.id ask.verb reply d e does
step_calls (steps.Collected session message) d e does = given session message d e (next_back session d.forwards.ledger) refl does
step_calls (steps.Ended session) d e does = by_call (IsMadeBy d.database (steps.Ended session)) (Ends session) d e refl does.requests (ap database_of does.rest)
step_calls (steps.WentUp message) d e does = gone_up message d e d.locks.has_source does
step_calls (steps.Heard message result) d e does = heard message d result e does
step_calls steps.FoundSource d e does = no_call (IsMadeBy d.database steps.FoundSource) d e refl (ap forwards_of does.rest) (ap database_of does.rest)
step_calls steps.LostSource d e does = by_call (IsMadeBy d.database steps.LostSource) LosesSource d e refl does.requests (ap database_of does.rest)

record AllMade (database : List ℕ) (made : List DeskStep) (l m : Ledger) : Type 0 where
  calls : List Call
  made_by : AreMadeBy database made calls
  run : Runs l calls m

all_calls : (database : List ℕ) (made : List DeskStep) (d e : RelayValue) → d.database ≡ database → DoesAll d made e
    → AllMade database made d.forwards.ledger e.forwards.ledger
all_calls database [] d e same all = record { calls = []; made_by = refl; run = ap (λ (x : RelayValue). x.forwards.ledger) all }
all_calls database (s ∷ later) d e same (h, does, all) =
    let first = step_calls s d h does in
    let rest = all_calls database later h e (first.same ∙ same) all in
    record {
      calls = first.calls ++ rest.calls;
      made_by = (first.calls, rest.calls, refl, subst (λ x. IsMadeBy x s first.calls) same first.made, rest.made_by);
      run = runs_append first.calls rest.calls d.forwards.ledger h.forwards.ledger e.forwards.ledger first.run rest.run;
    }

pub accounted : (database : List ℕ) (made : List DeskStep) → AreSteps database made → IsAccounted database made
accounted database made (e, all) =
    let m = all_calls database made (new_desk database) e refl all in
    record {
      calls = m.calls;
      left = e.forwards.ledger;
      made_by = m.made_by;
      run = m.run;
      rising = rises no_request m.calls e.forwards.ledger m.run;
      up = in_order no_request m.calls e.forwards.ledger m.run;
      once = once no_request m.calls e.forwards.ledger (omega arith) m.run;
      own = own [] no_request m.calls e.forwards.ledger tt m.run;
      answers = all_closed [] no_request m.calls e.forwards.ledger (omega arith) tt m.run;
      ended = λ session before after is away. ended session no_request before after e.forwards.ledger (subst (λ x. Runs no_request x e.forwards.ledger) is m.run) away;
    }
