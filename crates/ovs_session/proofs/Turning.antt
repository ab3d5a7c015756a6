-- What a turn does, put together of its steps.
use Rattle.std.proofs.Common.{◌⊎◌, inl, inr, ◌≡◌, ℕ, suc, ◌+◌, ◌<◌, ◌≤◌, arith, List, [], ◌∷◌, ◌++◌, length, add-one, Option, Some, None, true, Ok, Err, ap, sym, ◌∙◌, subst, refl}
use Rattle.std.specs.Prelude.{Result, IfOk, IsOkAnd}
use Rattle.std.specs.Option.{is_some}
use Rattle.std.proofs.lemmas.Bool.{false≢true}
use Rattle.ovs_wire.specs.Counted.{one_more}
use Rattle.ovs_session.specs.declared.ended.Ended.{Ended}
use Rattle.ovs_session.specs.declared.limits.TurnProgress.{TurnProgress}
use Rattle.ovs_session.specs.declared.limits.TurnProgress.TheVariants.{Busy}
use Rattle.ovs_session.specs.declared.steps.Left.{Left}
use Rattle.ovs_session.specs.declared.steps.Left.TheVariants.{Nothing, More, Untaken, Refused, Untold}
use Rattle.ovs_session.specs.Counting.{IsAfter, count_on}
use Rattle.ovs_session.specs.Serving.{SessionValue, Holds, Worked, holding}
use Rattle.ovs_session.specs.Turning.{WithDevices, CallsReader, IsExchange, HasPassed, HasAnswered, IsNewly, IsBusy, IsTurn, AreTurns, HasCountedAtMost, at_hand}
use Rattle.ovs_session.specs.Working.{MayGoOn, GoesOn}
use Rattle.ovs_session.proofs.Counted.{after_more, after_counting}

-- a message that is there
pub some_message : {X : Type 0} (o : Option X) → is_some o ≡ true → (x : X) × (o ≡ Some x)
some_message (Some x) e = (x, refl)
some_message None e = absurd (false≢true e)

-- ---- messages at hand

-- holding a message leaves as many at hand
pub same_at_hand : {C : Type 0} (a b : SessionValue C) → (b ≡ a) ⊎ Holds a b → length (at_hand b) ≡ length (at_hand a)
same_at_hand a b (inl e) = ap (λ z. length (at_hand z)) e
same_at_hand a b (inr h) =
    ap (λ z. length (at_hand z)) h.now
    ∙ sym (ap (λ w. length (holding a.held ++ w)) (h.takes.0) ∙ ap (λ o. length (holding o ++ (h.message ∷ h.framing.waiting))) h.was)

-- answering the one that is held leaves one fewer
pub fewer_at_hand : {C : Type 0} (a b : SessionValue C) → (m : List ℕ) × (a.held ≡ Some m) → b.held ≡ None → b.framing ≡ a.framing
    → length (at_hand b) + 1 ≡ length (at_hand a)
fewer_at_hand a b held none same =
    let after : length (at_hand b) ≡ length a.framing.waiting = ap (λ o. length (holding o ++ b.framing.waiting)) none ∙ ap (λ f. length f.waiting) same in
    let before : length (at_hand a) ≡ suc (length a.framing.waiting) = ap (λ o. length (holding o ++ a.framing.waiting)) held.1 in
    omega arith

-- what is told leaves why the steps stopped so
pub may_go_on : {C : Type 0} (tells : C → List ℕ → C → Type 0) (may_answer is_answered may_tell : C → Type 0) (left : Left) (old mid new : SessionValue C)
    → (left ≡ More → (0 < length mid.unsent) ⊎ HasAnswered old mid) → (left ≡ Untaken → may_answer mid.state → ⊥)
    → (left ≡ Refused → ⊥) → (left ≡ Untold → ⊥) → length mid.unsent ≤ length new.unsent → at_hand new ≡ at_hand mid
    → (0 < length new.unsent) ⊎ ((said : List ℕ) × tells mid.state said new.state)
    → MayGoOn tells may_answer is_answered may_tell left old new
may_go_on tells may_answer is_answered may_tell Nothing old mid new more untaken refused untold grows same told = tt
may_go_on tells may_answer is_answered may_tell More old mid new more untaken refused untold grows same told = elim (more refl) [
  | inl some ↦ inl (omega arith)
  | inr fewer ↦ inr (subst (λ (xs : List (List ℕ)). length xs < length (at_hand old)) (sym same) fewer)
]
may_go_on tells may_answer is_answered may_tell Untaken old mid new more untaken refused untold grows same (inl some) = inl some
may_go_on tells may_answer is_answered may_tell Untaken old mid new more untaken refused untold grows same (inr told) =
    inr (mid.state, told.0, told.1, untaken refl)
may_go_on tells may_answer is_answered may_tell Refused old mid new more untaken refused untold grows same told = absurd (refused refl)
may_go_on tells may_answer is_answered may_tell Untold old mid new more untaken refused untold grows same told = absurd (untold refl)

-- ---- a turn

none_left : {X : Type 0} (xs : List X) → xs ≡ [] → 0 < length xs → ⊥
none_left xs e some = let same = ap length e in omega arith

called_noted : {C R W : Type 0} (old new : WithDevices C R W) (e : Option Ended) → CallsReader old new
    → CallsReader old (record new { session = record new.session { ended = e } })
called_noted old new e c = record {
  unsent = c.unsent;
  unfed = c.unfed;
  held = c.held;
  waiting = c.waiting;
  reader = record { device = c.reader.device; turns = c.reader.turns };
  writer = c.writer;
}

exchange_noted : {C R W : Type 0} (old new : WithDevices C R W) (e : Option Ended) → IsExchange old new
    → IsExchange old (record new { session = record new.session { ended = e } })
exchange_noted old new e (inl c) =
    inl (record { unsent = c.unsent; reader = c.reader; writer = record { device = c.writer.device; turns = c.writer.turns } })
exchange_noted old new e (inr (inl c)) = inr (inl (called_noted old new e c))
exchange_noted old new e (inr (inr c)) =
    inr (inr (record { unsent = c.unsent; reader = record { device = c.reader.device; turns = c.reader.turns }; writer = c.writer }))

passed_noted : {C R W : Type 0} (old new : WithDevices C R W) (e : Option Ended) → HasPassed old new
    → HasPassed old (record new { session = record new.session { ended = e } })
passed_noted old new e (inl c) = inl c
passed_noted old new e (inr (inl c)) = inr (inl (called_noted old new e c))
passed_noted old new e (inr (inr c)) = inr (inr c)

-- ---- calls of devices

-- where nothing happened
pub counted_still : {C R W : Type 0} (old new : WithDevices C R W) → (new.session ≡ old.session) × (new.reader ≡ old.reader) × (new.writer ≡ old.writer)
    → HasCountedAtMost 0 old new
counted_still old new same = record {
  reads = 0;
  writes = 0;
  within = omega arith;
  reader = ap (λ d. count_on d.calls 0) same.1;
  writer = ap (λ d. count_on d.calls 0) same.2;
  turns = ap (λ z. count_on z.counts.turns 0) same.0;
}

pub counted_within : {C R W : Type 0} (k n : ℕ) (old new : WithDevices C R W) → HasCountedAtMost k old new → k ≤ n → HasCountedAtMost n old new
counted_within k n old new c at_most = let most = c.within in record {
  reads = c.reads;
  writes = c.writes;
  within = omega arith;
  reader = c.reader;
  writer = c.writer;
  turns = c.turns;
}

of_both : (k l m n : ℕ) → (k + l) + (m + n) ≡ (k + m) + (l + n)
of_both k l m n = omega arith

within_both : (k l m n s t : ℕ) → k + l ≤ s → m + n ≤ t → (k + m) + (l + n) ≤ s + t
within_both k l m n s t p q = omega arith

pub counted_more : {C R W : Type 0} (k l : ℕ) (a b c : WithDevices C R W) → HasCountedAtMost k a b → HasCountedAtMost l b c → HasCountedAtMost (k + l) a c
counted_more k l a b c p q = record {
  reads = p.reads + q.reads;
  writes = p.writes + q.writes;
  within = within_both p.reads p.writes q.reads q.writes k l p.within q.within;
  reader = after_more a.reader.calls b.reader.calls c.reader.calls p.reads q.reads p.reader q.reader;
  writer = after_more a.writer.calls b.writer.calls c.writer.calls p.writes q.writes p.writer q.writer;
  turns = after_more a.session.counts.turns b.session.counts.turns c.session.counts.turns (p.reads + p.writes) (q.reads + q.writes) p.turns q.turns
      ∙ ap (λ n. count_on a.session.counts.turns n) (of_both p.reads p.writes q.reads q.writes);
}

-- one more is counted
one_after : (a b : ℕ) → b ≡ one_more a → IsAfter b a 1
one_after a b e = ap (λ n. count_on n 0) e ∙ after_counting a 1

exchange_counts : {C R W : Type 0} (old : WithDevices C R W) (mid : SessionValue C) (new : WithDevices C R W) → mid.counts.turns ≡ old.session.counts.turns
    → IsExchange (record old { session = mid }) new → HasCountedAtMost 1 old new
exchange_counts old mid new same (inl w) = record {
  reads = 0;
  writes = 1;
  within = omega arith;
  reader = ap (λ d. count_on d.calls 0) w.reader;
  writer = one_after old.writer.calls new.writer.calls w.writer.device;
  turns = one_after old.session.counts.turns new.session.counts.turns (w.writer.turns ∙ ap one_more same);
}
exchange_counts old mid new same (inr (inl r)) = record {
  reads = 1;
  writes = 0;
  within = omega arith;
  reader = one_after old.reader.calls new.reader.calls r.reader.device;
  writer = ap (λ d. count_on d.calls 0) r.writer;
  turns = one_after old.session.counts.turns new.session.counts.turns (r.reader.turns ∙ ap one_more same);
}
exchange_counts old mid new same (inr (inr n)) = record {
  reads = 0;
  writes = 0;
  within = omega arith;
  reader = ap (λ d. count_on d.calls 0) n.reader.device;
  writer = ap (λ d. count_on d.calls 0) n.writer;
  turns = ap (λ k. count_on k 0) (n.reader.turns ∙ same);
}

module _ {C R W : Type 0} (answers : C → List ℕ → List ℕ → C → Type 0) (tells : C → List ℕ → C → Type 0)
    (may_answer is_answered : C → Type 0) where
  -- what a turn goes on with where no byte passed
  busy_left : (may_tell : C → Type 0) (left : Left) (old mid new : WithDevices C R W) → mid.session.unsent ≡ [] → new.session ≡ mid.session
      → MayGoOn tells may_answer is_answered may_tell left old.session mid.session → GoesOn may_answer is_answered left mid.session.state
      → IsBusy answers tells may_answer is_answered may_tell old mid new
  busy_left may_tell Nothing old mid new none same may goes = absurd goes
  busy_left may_tell More old mid new none same (inl some) goes = absurd (none_left mid.session.unsent none some)
  busy_left may_tell More old mid new none same (inr fewer) goes = inl fewer
  busy_left may_tell Untaken old mid new none same (inl some) goes = absurd (none_left mid.session.unsent none some)
  busy_left may_tell Untaken old mid new none same (inr told) goes =
      inr (inr (inr (inl (subst (λ (z : SessionValue C). IsNewly tells may_answer z.state) (sym same) (told, goes)))))
  busy_left may_tell Refused old mid new none same (inl some) goes = absurd (none_left mid.session.unsent none some)
  busy_left may_tell Refused old mid new none same (inr told) goes =
      inr (inr (inr (inr (subst (λ (z : SessionValue C). IsNewly tells is_answered z.state) (sym same) (told, goes)))))
  busy_left may_tell Untold old mid new none same may goes = inr (inr (inl (subst (λ (z : SessionValue C). may_tell z.state) (sym same) may)))

  busy_of : (may_tell : C → Type 0) (left : Result Left Ended) (old mid new : WithDevices C R W)
      → IfOk left (λ l. MayGoOn tells may_answer is_answered may_tell l old.session mid.session)
      → HasPassed mid new ⊎ ((mid.session.unsent ≡ []) × (new.session ≡ mid.session) × IsOkAnd left (λ l. GoesOn may_answer is_answered l mid.session.state))
      → IsBusy answers tells may_answer is_answered may_tell old mid new
  busy_of may_tell left old mid new may (inl passed) = inr (inl passed)
  busy_of may_tell (Ok left) old mid new may (inr goes) = busy_left may_tell left old mid new goes.0 goes.1 may goes.2
  busy_of may_tell (Err e) old mid new may (inr goes) = absurd goes.2

  -- the steps without a device, and then an exchange
  pub turn_of_steps : (may_tell : C → Type 0) (limit : ℕ) (left : Result Left Ended) (result : Result TurnProgress Ended)
      (old : WithDevices C R W) (mid : SessionValue C) (new : WithDevices C R W)
      → Worked answers tells limit old.session mid
      → IfOk left (λ l. MayGoOn tells may_answer is_answered may_tell l old.session mid)
      → IsExchange (record old { session = mid }) new
      → (result ≡ Ok Busy → HasPassed (record old { session = mid }) new
      ⊎ ((mid.unsent ≡ []) × (new.session ≡ mid) × IsOkAnd left (λ l. GoesOn may_answer is_answered l mid.state)))
      → IsTurn answers tells may_answer is_answered may_tell limit result old new
  turn_of_steps may_tell limit left result old mid new worked may exchanged busy = record {
    mid = mid;
    worked = worked;
    exchanged = exchanged;
    busy = λ e. busy_of may_tell left old (record old { session = mid }) new may (busy e);
  }

  busy_noted : (may_tell : C → Type 0) (old mid new : WithDevices C R W) (e : Option Ended)
      → IsBusy answers tells may_answer is_answered may_tell old mid new
      → IsBusy answers tells may_answer is_answered may_tell old mid (record new { session = record new.session { ended = e } })
  busy_noted may_tell old mid new e (inl b) = inl b
  busy_noted may_tell old mid new e (inr (inl b)) = inr (inl (passed_noted mid new e b))
  busy_noted may_tell old mid new e (inr (inr (inl b))) = inr (inr (inl b))
  busy_noted may_tell old mid new e (inr (inr (inr (inl b)))) = inr (inr (inr (inl b)))
  busy_noted may_tell old mid new e (inr (inr (inr (inr b)))) = inr (inr (inr (inr b)))

  -- why a session has ended may be noted
  pub turn_noted : (may_tell : C → Type 0) (limit : ℕ) (result : Result TurnProgress Ended) (old new : WithDevices C R W) (noted : SessionValue C) (e : Option Ended)
      → noted ≡ record new.session { ended = e }
      → IsTurn answers tells may_answer is_answered may_tell limit result old new
      → IsTurn answers tells may_answer is_answered may_tell limit result old (record new { session = noted })
  turn_noted may_tell limit result old new noted e is turn =
      subst (λ (z : SessionValue C). IsTurn answers tells may_answer is_answered may_tell limit result old (record new { session = z })) (sym is)
      (record {
        mid = turn.mid;
        worked = turn.worked;
        exchanged = exchange_noted (record old { session = turn.mid }) new e turn.exchanged;
        busy = λ b. busy_noted may_tell old (record old { session = turn.mid }) new e (turn.busy b);
      })

  -- ---- several turns

  -- calls of devices in one turn
  pub turn_counts : (may_tell : C → Type 0) (limit : ℕ) (result : Result TurnProgress Ended) (old new : WithDevices C R W)
      → IsTurn answers tells may_answer is_answered may_tell limit result old new → HasCountedAtMost 1 old new
  turn_counts may_tell limit result old new turn = exchange_counts old turn.mid new turn.worked.same_turns turn.exchanged

  -- the same where nothing happens once the session has ended
  pub turn_counted : (may_tell : C → Type 0) (limit : ℕ) (result : Result TurnProgress Ended) (ended : Option Ended) (old new : WithDevices C R W)
      → (ended ≡ None → IsTurn answers tells may_answer is_answered may_tell limit result old new)
      → ((e : Ended) → ended ≡ Some e → (result ≡ Err e) × (new.session ≡ old.session) × (new.reader ≡ old.reader) × (new.writer ≡ old.writer))
      → HasCountedAtMost 1 old new
  turn_counted may_tell limit result None old new turned over = turn_counts may_tell limit result old new (turned refl)
  turn_counted may_tell limit result (Some e) old new turned over = let same = over e refl in
      counted_within 0 1 old new (counted_still old new (same.1, same.2, same.3)) (omega arith)

  -- one turn more
  pub one_turn_more : {S : Type 0} (may_tell : S → C → Type 0) (limit n : ℕ) (result : Result TurnProgress Ended) (progress : TurnProgress) (service : S) (a b c : WithDevices C R W)
      → AreTurns answers tells may_answer is_answered may_tell limit n a b → result ≡ Ok progress
      → IsTurn answers tells may_answer is_answered (may_tell service) limit result b c
      → AreTurns answers tells may_answer is_answered may_tell limit (n + 1) a c
  one_turn_more may_tell limit n result progress service a b c turns is turn =
      subst (λ (k : ℕ). AreTurns answers tells may_answer is_answered may_tell limit k a c) (sym (add-one n))
      (b, turns, (service, progress, subst (λ (r : Result TurnProgress Ended). IsTurn answers tells may_answer is_answered (may_tell service) limit r b c) is turn))
