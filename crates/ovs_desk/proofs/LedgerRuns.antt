-- Every list of calls on the requests that are passed on: their numbers, and what is given to their askers.
use Rattle.std.proofs.Common.{◌≡◌, ℕ, suc, ◌+◌, ◌*◌, ◌<◌, ◌≤◌, List, [], ◌∷◌, ◌++◌, Bool, true, false, cond, Some, None, refl, sym, ap, subst, ◌∙◌, arith, eqb-true, append_assoc}
use Rattle.std.specs.Prelude.{◌≢◌, ◌==◌, not, filter}
use Rattle.std.specs.List.{find, AllByRecursion}
use Rattle.serde_json.specs.Data.{Data}
use Rattle.ovs_wire.specs.declared.message.Message.TheVariants as messages
use Rattle.ovs_desk.specs.declared.forwarded.Forwarded.{Forwarded}
use Rattle.ovs_desk.specs.declared.forwarded.ForwardedState.{ForwardedState}
use Rattle.ovs_desk.specs.declared.forwarded.ForwardedState.TheVariants.{Waiting, Taken, Answered, Lost}
use Rattle.ovs_desk.specs.declared.forwarded.RequestFilter.TheVariants.{Due}
use Rattle.ovs_desk.specs.Book.{AscendIn}
use Rattle.ovs_desk.specs.Calls.{Call, Sends, TakesUp, Replies, LosesSource, Collects, Ends, After, sent_by}
use Rattle.ovs_desk.specs.Ledger.{Ledger, is_open, passes, without_first, going_back, source_lost}
use Rattle.ovs_desk.specs.Runs.{Runs, sent_in, sent, collected_in, collected, numbers, RiseFrom, EachOnce, WasSent, GivesOwn, AllGiveOwn, StaysAway, GivesNothing}
use Rattle.ovs_desk.proofs.LedgerSteps.{all_found, Fresh, all_after, Ascends, ascends_after, sent_after, in_bounds}
use Rattle.ovs_desk.proofs.Steps.{found_passes, due_state, both, another}

-- ---- numbers

lower : (low high : ℕ) (ns : List ℕ) → low ≤ high → RiseFrom high ns → RiseFrom low ns
lower low high [] le r = tt
lower low high (n ∷ ns) le r = (let least = r.0 in omega (arith, le, least), r.1)

pub rises : (l : Ledger) (cs : List Call) (m : Ledger) → Runs l cs m → RiseFrom (4096 * l.sent) (numbers (sent cs))
rises l [] m r = tt
rises l (c ∷ cs) m (k, after, rest) = of c after (sent_after c l k after) (rises k cs m rest)
  where
    of : (c : Call) → After c l k → l.sent ≤ k.sent → RiseFrom (4096 * k.sent) (numbers (sent cs)) → RiseFrom (4096 * l.sent) (numbers (sent_in c ++ sent cs))
    of (Sends session id request n) ((place, below, is, apart), then) le more =
        let s : k.sent ≡ l.sent + 1 = ap (λ (x : Ledger). x.sent) then in
        (omega (arith, is), lower (suc n) (4096 * k.sent) (numbers (sent cs)) (omega (arith, is, below, s)) more)
    of (TakesUp up) after le more = lower (4096 * l.sent) (4096 * k.sent) (numbers (sent cs)) (omega (arith, le)) more
    of (Replies n answer) after le more = lower (4096 * l.sent) (4096 * k.sent) (numbers (sent cs)) (omega (arith, le)) more
    of LosesSource after le more = lower (4096 * l.sent) (4096 * k.sent) (numbers (sent cs)) (omega (arith, le)) more
    of (Collects session back) after le more = lower (4096 * l.sent) (4096 * k.sent) (numbers (sent cs)) (omega (arith, le)) more
    of (Ends session) after le more = lower (4096 * l.sent) (4096 * k.sent) (numbers (sent cs)) (omega (arith, le)) more

-- ---- each answer once

-- no request has this number
abbrev Others : ℕ → Forwarded → Type 0
Others n e = e.number ≢ n

above : (n low high : ℕ) (es : List Forwarded) → n < low → AscendIn low high es → AllByRecursion (Others n) es
above n low high [] less a = tt
above n low high (e ∷ es) less a =
    let least = a.0 in
    ((λ same. absurd (omega (arith, less, least, same))), above n (suc e.number) high es (omega (arith, less, least)) a.1)

-- the one that was taken out isn't there any more
taken_out : (test : Forwarded → Bool) (low high : ℕ) (es : List Forwarded) (r : Forwarded) → AscendIn low high es → find test es ≡ Some r → AllByRecursion (Others r.number) (without_first test es)
taken_out test low high [] r a is = tt
taken_out test low high (e ∷ es) r a is = by (test e) is (taken_out test (suc e.number) high es r a.1)
  where
    by : (b : Bool) → cond b (Some e) (find test es) ≡ Some r → (find test es ≡ Some r → AllByRecursion (Others r.number) (without_first test es))
        → AllByRecursion (Others r.number) (cond b es (e ∷ without_first test es))
    by true here more =
        let same : e.number ≡ r.number = (let one : e ≡ r = cc in ap (λ (x : Forwarded). x.number) one) in
        above r.number (suc e.number) high es (omega (arith, same)) a.1
    by false there more =
        let first = (in_bounds test (suc e.number) high es r a.1 there).0 in
        ((λ same. absurd (omega (arith, first, same))), more there)

-- a request to come has another number than those that were sent before
fresh_other : (n : ℕ) (c : Call) (l k : Ledger) → After c l k → n < 4096 * l.sent → Fresh (Others n) c
fresh_other n (Sends session id request x) l k ((place, below, is, apart), then) less = λ same. absurd (omega (arith, less, is, same))
fresh_other n (TakesUp up) l k after less = tt
fresh_other n (Replies x answer) l k after less = tt
fresh_other n LosesSource l k after less = tt
fresh_other n (Collects session back) l k after less = tt
fresh_other n (Ends session) l k after less = tt

never : (n : ℕ) (l : Ledger) (cs : List Call) (m : Ledger) → n < 4096 * l.sent → AllByRecursion (Others n) l.pending → Runs l cs m
    → AllByRecursion (λ x. x ≢ n) (numbers (collected cs))
never n l [] m less others r = tt
never n l (c ∷ cs) m less others (k, after, rest) =
    let le = sent_after c l k after in
    let later = never n k cs m (omega (arith, less, le)) (all_after (Others n) (λ state e apart. apart) c l k after (fresh_other n c l k after less) others) rest in
    of c after later
  where
    of : (c : Call) → After c l k → AllByRecursion (λ x. x ≢ n) (numbers (collected cs)) → AllByRecursion (λ x. x ≢ n) (numbers (collected_in c ++ collected cs))
    of (Sends session id request x) after later = later
    of (TakesUp up) after later = later
    of (Replies x answer) after later = later
    of LosesSource after later = later
    of (Collects session None) after later = later
    of (Collects session (Some e)) (is, then) later = (all_found (Others n) (passes (Due session)) l.pending e others (sym is), later)
    of (Ends session) after later = later

pub once : (l : Ledger) (cs : List Call) (m : Ledger) → Ascends l → Runs l cs m → EachOnce (numbers (collected cs))
once l [] m a r = tt
once l (c ∷ cs) m a (k, after, rest) = of c after (once k cs m (ascends_after c l k after a) rest)
  where
    of : (c : Call) → After c l k → EachOnce (numbers (collected cs)) → EachOnce (numbers (collected_in c ++ collected cs))
    of (Sends session id request n) after more = more
    of (TakesUp up) after more = more
    of (Replies n answer) after more = more
    of LosesSource after more = more
    of (Collects session None) after more = more
    of (Collects session (Some e)) (is, then) more =
        let bound = (in_bounds (passes (Due session)) 0 (4096 * l.sent) l.pending e a (sym is)).1 in
        let s : k.sent ≡ l.sent = ap (λ (x : Ledger). x.sent) then in
        let gone = taken_out (passes (Due session)) 0 (4096 * l.sent) l.pending e a (sym is) in
        (never e.number k cs m (omega (arith, bound, s)) (subst (λ (x : Ledger). AllByRecursion (Others e.number) x.pending) (sym then) gone) rest, more)
    of (Ends session) after more = more

-- ---- each answer to its asker

grown : (e : Forwarded) (before more : List Forwarded) → WasSent e before → WasSent e (before ++ more)
grown e before more w = record {
  earlier = w.earlier;
  later = w.later ++ more;
  request = w.request;
  sent = ap (λ (xs : List Forwarded). xs ++ more) w.sent ∙ append_assoc w.earlier (sent_by e.asker e.id w.request e.number ∷ w.later) more;
}

all_grown : (before more es : List Forwarded) → AllByRecursion (λ e. WasSent e before) es → AllByRecursion (λ e. WasSent e (before ++ more)) es
all_grown before more [] all = tt
all_grown before more (e ∷ es) all = (grown e before more all.0, all_grown before more es all.1)

fresh_sent : (before : List Forwarded) (c : Call) → Fresh (λ e. WasSent e (before ++ sent_in c)) c
fresh_sent before (Sends session id request n) = record { earlier = before; later = []; request = request; sent = refl }
fresh_sent before (TakesUp up) = tt
fresh_sent before (Replies n answer) = tt
fresh_sent before LosesSource = tt
fresh_sent before (Collects session back) = tt
fresh_sent before (Ends session) = tt

record Replied (id : Data) (state : ForwardedState) : Type 0 where
  result : Data
  error : Data
  is : going_back id state ≡ Some (messages.Reply result error id)

own_reply : (id : Data) (state : ForwardedState) → is_open state ≡ false → Replied id state
own_reply id (Waiting request) e = absurd cc
own_reply id Taken e = absurd cc
own_reply id (Answered answer) e = record { result = answer.answer.result; error = answer.answer.error; is = refl }
own_reply id Lost e = record { result = source_lost.answer.result; error = source_lost.answer.error; is = refl }

gives_own : (before : List Forwarded) (c : Call) (l k : Ledger) → After c l k → AllByRecursion (λ e. WasSent e before) l.pending → GivesOwn c before
gives_own before (Sends session id request n) l k after all = tt
gives_own before (TakesUp up) l k after all = tt
gives_own before (Replies n answer) l k after all = tt
gives_own before LosesSource l k after all = tt
gives_own before (Collects session None) l k after all = tt
gives_own before (Collects session (Some e)) l k (is, then) all =
    let due = found_passes (passes (Due session)) l.pending e (sym is) in
    let reply = own_reply e.id e.state (due_state session e due) in
    record {
      own = eqb-true e.asker session (both (e.asker == session) (not (is_open e.state)) due).0;
      was_sent = all_found (λ x. WasSent x before) (passes (Due session)) l.pending e all (sym is);
      result = reply.result;
      error = reply.error;
      reply = reply.is;
    }
gives_own before (Ends session) l k after all = tt

pub own : (before : List Forwarded) (l : Ledger) (cs : List Call) (m : Ledger) → AllByRecursion (λ e. WasSent e before) l.pending → Runs l cs m → AllGiveOwn before cs
own before l [] m all r = tt
own before l (c ∷ cs) m all (k, after, rest) = (
  gives_own before c l k after all,
  own (before ++ sent_in c) k cs m
      (all_after (λ e. WasSent e (before ++ sent_in c)) (λ state e w. record { earlier = w.earlier; later = w.later; request = w.request; sent = w.sent }) c l k after (fresh_sent before c)
      (all_grown before (sent_in c) l.pending all)) rest,
)

-- ---- a session that ended

abbrev NotOf : ℕ → Forwarded → Type 0
NotOf session e = (e.asker == session) ≡ false

none_of : (session : ℕ) (es : List Forwarded) → AllByRecursion (NotOf session) (filter (λ e. not (e.asker == session)) es)
none_of session [] = tt
none_of session (e ∷ es) = by (e.asker == session) refl (none_of session es)
  where
    by : (b : Bool) → (e.asker == session) ≡ b → AllByRecursion (NotOf session) (filter (λ e. not (e.asker == session)) es)
        → AllByRecursion (NotOf session) (cond (not b) (e ∷ filter (λ e. not (e.asker == session)) es) (filter (λ e. not (e.asker == session)) es))
    by true is rest = rest
    by false is rest = (is, rest)

none_due : (session : ℕ) (es : List Forwarded) → AllByRecursion (NotOf session) es → find (passes (Due session)) es ≡ None
none_due session [] none = refl
none_due session (e ∷ es) none = rw none.0 (none_due session es none.1)

fresh_away : (session : ℕ) (c : Call) → StaysAway session c → Fresh (NotOf session) c
fresh_away session (Sends other id request n) away = another other session (λ same. away (sym same))
fresh_away session (TakesUp up) away = tt
fresh_away session (Replies n answer) away = tt
fresh_away session LosesSource away = tt
fresh_away session (Collects other back) away = tt
fresh_away session (Ends other) away = tt

gives_nothing : (session : ℕ) (c : Call) (l k : Ledger) → After c l k → AllByRecursion (NotOf session) l.pending → GivesNothing session c
gives_nothing session (Sends other id request n) l k after none = tt
gives_nothing session (TakesUp up) l k after none = tt
gives_nothing session (Replies n answer) l k after none = tt
gives_nothing session LosesSource l k after none = tt
gives_nothing session (Collects other back) l k (is, then) none = λ same. is ∙ ap (λ (w : ℕ). find (passes (Due w)) l.pending) same ∙ none_due session l.pending none
gives_nothing session (Ends other) l k after none = tt

quiet : (session : ℕ) (l : Ledger) (cs : List Call) (m : Ledger) → AllByRecursion (NotOf session) l.pending → Runs l cs m → AllByRecursion (StaysAway session) cs → AllByRecursion (GivesNothing session) cs
quiet session l [] m none r away = tt
quiet session l (c ∷ cs) m none (k, after, rest) away =
    (gives_nothing session c l k after none, quiet session k cs m (all_after (NotOf session) (λ state e is. is) c l k after (fresh_away session c away.0) none) rest away.1)

pub ended : (session : ℕ) (l : Ledger) (before after : List Call) (m : Ledger) → Runs l (before ++ Ends session ∷ after) m
    → AllByRecursion (StaysAway session) after → AllByRecursion (GivesNothing session) after
ended session l [] after m (k, then, rest) away = quiet session k after m (subst (λ (x : Ledger). AllByRecursion (NotOf session) x.pending) (sym then) (none_of session l.pending)) rest away
ended session l (c ∷ before) after m (k, step, rest) away = ended session k before after m rest away
