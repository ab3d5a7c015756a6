-- Every list of calls on the requests that are passed on: which answer each is given.
use Rattle.std.proofs.Common.{◌≡◌, ℕ, suc, ◌*◌, ◌<◌, List, [], ◌∷◌, ◌++◌, Bool, true, false, cond, ◌&&◌, Option, Some, None, refl, sym, ap, subst, ◌∙◌, arith, eqb-true, append_assoc}
use Rattle.std.specs.Prelude.{◌==◌, not, map, filter}
use Rattle.std.specs.List.{AllByRecursion}
use Rattle.std.specs.Option.{option_or}
use Rattle.serde_json.specs.Data.{Data}
use Rattle.ovs_authority.specs.declared.ask.Request.{Request}
use Rattle.ovs_desk.specs.declared.standing.StandingAnswer.{StandingAnswer}
use Rattle.ovs_desk.specs.declared.forwarded.Forwarded.{Forwarded}
use Rattle.ovs_desk.specs.declared.forwarded.ForwardedState.{ForwardedState}
use Rattle.ovs_desk.specs.declared.forwarded.ForwardedState.TheVariants.{Waiting, Taken, Answered, Lost}
use Rattle.ovs_desk.specs.declared.forwarded.RequestFilter.TheVariants.{ToGo, Open, Due}
use Rattle.ovs_desk.specs.Book.{AscendIn}
use Rattle.ovs_desk.specs.Calls.{Call, Sends, TakesUp, Replies, LosesSource, Collects, Ends, After, sent_by}
use Rattle.ovs_desk.specs.Ledger.{Ledger, is_open, is_waiting, passes, with_state, taken, answered, lost, at_first, without_first}
use Rattle.ovs_desk.specs.Runs.{Runs}
use Rattle.ovs_desk.proofs.LedgerSteps.{all_found, Ascends, ascends_after}
use Rattle.ovs_desk.proofs.Steps.{found_passes, due_state, another}
use Rattle.ovs_recorded_desk.specs.Answering.{closes, closed_by, GivesClosed, AllGiveClosed}

-- ---- options

or_none : {A : Type 0} (o : Option A) → option_or o None ≡ o
or_none None = refl
or_none (Some x) = refl

or_assoc : {A : Type 0} (o p q : Option A) → option_or o (option_or p q) ≡ option_or (option_or o p) q
or_assoc None p q = refl
or_assoc (Some x) p q = refl

-- ---- how far a request has come

-- what it became where it isn't open any more
abbrev pub outcome : ForwardedState → Option ForwardedState
outcome (Waiting request) = None
outcome Taken = None
outcome (Answered answer) = Some (Answered answer)
outcome Lost = Some Lost

of_waiting : (s : ForwardedState) → is_waiting s ≡ true → outcome s ≡ None
of_waiting (Waiting request) is = refl
of_waiting Taken is = refl
of_waiting (Answered answer) is = absurd cc
of_waiting Lost is = absurd cc

of_open : (s : ForwardedState) → is_open s ≡ true → outcome s ≡ None
of_open (Waiting request) is = refl
of_open Taken is = refl
of_open (Answered answer) is = absurd cc
of_open Lost is = absurd cc

of_closed : (s : ForwardedState) → is_open s ≡ false → outcome s ≡ Some s
of_closed (Waiting request) is = absurd cc
of_closed Taken is = absurd cc
of_closed (Answered answer) is = refl
of_closed Lost is = refl

-- the request was sent by one of the calls, and is as the first that closes it left it
pub record Stands (asker : ℕ) (id : Data) (number : ℕ) (state : ForwardedState) (made : List Call) : Type 0 where
  pub earlier : List Call
  pub later : List Call
  pub request : Request
  pub sent : made ≡ earlier ++ Sends asker id request number ∷ later
  pub closed : closed_by number later ≡ outcome state

abbrev pub StandsIn : List Call → Forwarded → Type 0
StandsIn made e = Stands e.asker e.id e.number e.state made

closed_last : (number : ℕ) (cs : List Call) (c : Call) → closed_by number (cs ++ c ∷ []) ≡ option_or (closed_by number cs) (closes number c)
closed_last number [] c = or_none (closes number c)
closed_last number (x ∷ cs) c = ap (option_or (closes number x)) (closed_last number cs c) ∙ or_assoc (closes number x) (closed_by number cs) (closes number c)

-- after one call more
stands_on : (made : List Call) (c : Call) (asker : ℕ) (id : Data) (number : ℕ) (old new : ForwardedState) → outcome new ≡ option_or (outcome old) (closes number c)
    → Stands asker id number old made → Stands asker id number new (made ++ c ∷ [])
stands_on made c asker id number old new is s = record {
  earlier = s.earlier;
  later = s.later ++ c ∷ [];
  request = s.request;
  sent = ap (λ (xs : List Call). xs ++ c ∷ []) s.sent ∙ append_assoc s.earlier (Sends asker id s.request number ∷ s.later) (c ∷ []);
  closed = closed_last number s.later c ∙ ap (λ o. option_or o (closes number c)) s.closed ∙ sym is;
}

-- ---- all requests, after a call

module _ (made : List Call) (c : Call) where
  abbrev Before : Forwarded → Type 0
  Before e = StandsIn made e

  abbrev Behind : Forwarded → Type 0
  Behind e = StandsIn (made ++ c ∷ []) e

  becomes : (e : Forwarded) (state : ForwardedState) → outcome state ≡ option_or (outcome e.state) (closes e.number c) → Before e → Behind (with_state state e)
  becomes e state is s = stands_on made c e.asker e.id e.number e.state state is s

  -- of a call that doesn't close it
  stays : (e : Forwarded) → closes e.number c ≡ None → Before e → Behind e
  stays e is s = stands_on made c e.asker e.id e.number e.state e.state (sym (ap (option_or (outcome e.state)) is ∙ or_none (outcome e.state))) s

  -- of one that is closed already
  keeps : (e : Forwarded) → is_open e.state ≡ false → Before e → Behind e
  keeps e is s =
      let o = of_closed e.state is in
      stands_on made c e.asker e.id e.number e.state e.state (o ∙ sym (ap (λ x. option_or x (closes e.number c)) o)) s

  module _ (none : (number : ℕ) → closes number c ≡ None) where
    all_stay : (es : List Forwarded) → AllByRecursion Before es → AllByRecursion Behind es
    all_stay [] all = tt
    all_stay (e ∷ es) all = (stays e (none e.number) all.0, all_stay es all.1)

    all_last : (es : List Forwarded) (e : Forwarded) → AllByRecursion Before es → Behind e → AllByRecursion Behind (es ++ e ∷ [])
    all_last [] e all last = (last, tt)
    all_last (x ∷ es) e all last = (stays x (none x.number) all.0, all_last es e all.1 last)

    all_taken : (es : List Forwarded) → AllByRecursion Before es → AllByRecursion Behind (at_first (passes ToGo) taken es)
    all_taken [] all = tt
    all_taken (e ∷ es) all = by (is_waiting e.state) refl (all_taken es all.1)
      where
        by : (b : Bool) → is_waiting e.state ≡ b → AllByRecursion Behind (at_first (passes ToGo) taken es)
            → AllByRecursion Behind (cond b (taken e ∷ es) (e ∷ at_first (passes ToGo) taken es))
        by true is rest =
            let o = of_waiting e.state is in
            (becomes e Taken (sym (ap (option_or (outcome e.state)) (none e.number) ∙ or_none (outcome e.state) ∙ o)) all.0, all_stay es all.1)
        by false is rest = (stays e (none e.number) all.0, rest)

    all_without : (test : Forwarded → Bool) (es : List Forwarded) → AllByRecursion Before es → AllByRecursion Behind (without_first test es)
    all_without test [] all = tt
    all_without test (e ∷ es) all = by (test e) (all_without test es all.1)
      where
        by : (b : Bool) → AllByRecursion Behind (without_first test es) → AllByRecursion Behind (cond b es (e ∷ without_first test es))
        by true rest = all_stay es all.1
        by false rest = (stays e (none e.number) all.0, rest)

    all_filter : (test : Forwarded → Bool) (es : List Forwarded) → AllByRecursion Before es → AllByRecursion Behind (filter test es)
    all_filter test [] all = tt
    all_filter test (e ∷ es) all = by (test e) (all_filter test es all.1)
      where
        by : (b : Bool) → AllByRecursion Behind (filter test es) → AllByRecursion Behind (cond b (e ∷ filter test es) (filter test es))
        by true rest = (stays e (none e.number) all.0, rest)
        by false rest = rest

-- ---- after the loss of the source

all_lost : (made : List Call) (es : List Forwarded) → AllByRecursion (StandsIn made) es → AllByRecursion (StandsIn (made ++ LosesSource ∷ [])) (map lost es)
all_lost made [] all = tt
all_lost made (e ∷ es) all = (by (is_open e.state) refl, all_lost made es all.1)
  where
    by : (b : Bool) → is_open e.state ≡ b → StandsIn (made ++ LosesSource ∷ []) (cond b (with_state Lost e) e)
    by true is = becomes made LosesSource e Lost (sym (ap (λ o. option_or o (Some Lost)) (of_open e.state is))) all.0
    by false is = keeps made LosesSource e is all.0

-- ---- after a reply

module _ (made : List Call) (n : ℕ) (answer : StandingAnswer) where
  other_number : (e : Forwarded) → (e.number == n) ≡ false → StandsIn made e → StandsIn (made ++ Replies n answer ∷ []) e
  other_number e is s = stays made (Replies n answer) e (ap (λ b. cond b (Some (Answered answer)) None) is) s

  -- requests with greater numbers
  all_later : (low high : ℕ) (es : List Forwarded) → n < low → AscendIn low high es → AllByRecursion (StandsIn made) es
      → AllByRecursion (StandsIn (made ++ Replies n answer ∷ [])) es
  all_later low high [] less a all = tt
  all_later low high (e ∷ es) less a all =
      let least = a.0 in (
        other_number e (another e.number n (λ same. absurd (omega (arith, less, least, same)))) all.0,
        all_later (suc e.number) high es (omega (arith, less, least)) a.1 all.1,
      )

  -- one that the reply isn't for has another number, or isn't open
  not_this : (e : Forwarded) (same waits : Bool) → (e.number == n) ≡ same → is_open e.state ≡ waits → (same && waits) ≡ false → StandsIn made e
      → StandsIn (made ++ Replies n answer ∷ []) e
  not_this e false waits same_is open_is is s = other_number e same_is s
  not_this e true false same_is open_is is s = keeps made (Replies n answer) e open_is s
  not_this e true true same_is open_is is s = absurd cc

  this : (e : Forwarded) (same waits : Bool) → (e.number == n) ≡ same → is_open e.state ≡ waits → (same && waits) ≡ true → StandsIn made e
      → (e.number ≡ n) × StandsIn (made ++ Replies n answer ∷ []) (answered answer e)
  this e false waits same_is open_is is s = absurd cc
  this e true false same_is open_is is s = absurd cc
  this e true true same_is open_is is s = (
    eqb-true e.number n same_is,
    becomes made (Replies n answer) e (Answered answer) (sym (ap (λ o. option_or o (closes e.number (Replies n answer))) (of_open e.state open_is) ∙ ap (λ b. cond b (Some (Answered answer)) None) same_is)) s,
  )

  all_answered : (low high : ℕ) (es : List Forwarded) → AscendIn low high es → AllByRecursion (StandsIn made) es
      → AllByRecursion (StandsIn (made ++ Replies n answer ∷ [])) (at_first (passes (Open n)) (answered answer) es)
  all_answered low high [] a all = tt
  all_answered low high (e ∷ es) a all = by (passes (Open n) e) refl (all_answered (suc e.number) high es a.1 all.1)
    where
      by : (b : Bool) → passes (Open n) e ≡ b → AllByRecursion (StandsIn (made ++ Replies n answer ∷ [])) (at_first (passes (Open n)) (answered answer) es)
          → AllByRecursion (StandsIn (made ++ Replies n answer ∷ [])) (cond b (answered answer e ∷ es) (e ∷ at_first (passes (Open n)) (answered answer) es))
      by true is rest =
          let t = this e (e.number == n) (is_open e.state) refl refl is all.0 in
          let same = t.0 in
          (t.1, all_later (suc e.number) high es (omega (arith, same)) a.1 all.1)
      by false is rest = (not_this e (e.number == n) (is_open e.state) refl refl is all.0, rest)

-- ---- every list of calls

stands_after : (made : List Call) (c : Call) (l k : Ledger) → After c l k → Ascends l → AllByRecursion (StandsIn made) l.pending
    → AllByRecursion (StandsIn (made ++ c ∷ [])) k.pending
stands_after made (Sends session id request n) l k (number, then) a all =
    subst (λ (x : Ledger). AllByRecursion (StandsIn (made ++ Sends session id request n ∷ [])) x.pending) (sym then)
    (all_last made (Sends session id request n) (λ x. refl) l.pending (sent_by session id request n) all (record { earlier = made; later = []; request = request; sent = refl; closed = refl }))
stands_after made (TakesUp up) l k (is, then) a all =
    subst (λ (x : Ledger). AllByRecursion (StandsIn (made ++ TakesUp up ∷ [])) x.pending) (sym then) (all_taken made (TakesUp up) (λ x. refl) l.pending all)
stands_after made (Replies n answer) l k then a all =
    subst (λ (x : Ledger). AllByRecursion (StandsIn (made ++ Replies n answer ∷ [])) x.pending) (sym then) (all_answered made n answer 0 (4096 * l.sent) l.pending a all)
stands_after made LosesSource l k then a all =
    subst (λ (x : Ledger). AllByRecursion (StandsIn (made ++ LosesSource ∷ [])) x.pending) (sym then) (all_lost made l.pending all)
stands_after made (Collects session back) l k (is, then) a all =
    subst (λ (x : Ledger). AllByRecursion (StandsIn (made ++ Collects session back ∷ [])) x.pending) (sym then) (all_without made (Collects session back) (λ x. refl) (passes (Due session)) l.pending all)
stands_after made (Ends session) l k then a all =
    subst (λ (x : Ledger). AllByRecursion (StandsIn (made ++ Ends session ∷ [])) x.pending) (sym then) (all_filter made (Ends session) (λ x. refl) (λ e. not (e.asker == session)) l.pending all)

gives_closed : (made : List Call) (c : Call) (l k : Ledger) → After c l k → AllByRecursion (StandsIn made) l.pending → GivesClosed c made
gives_closed made (Sends session id request n) l k after all = tt
gives_closed made (TakesUp up) l k after all = tt
gives_closed made (Replies n answer) l k after all = tt
gives_closed made LosesSource l k after all = tt
gives_closed made (Collects session None) l k after all = tt
gives_closed made (Collects session (Some e)) l k (is, then) all =
    let s = all_found (StandsIn made) (passes (Due session)) l.pending e all (sym is) in
    let closed = due_state session e (found_passes (passes (Due session)) l.pending e (sym is)) in
    record { earlier = s.earlier; later = s.later; request = s.request; sent = s.sent; closed = s.closed ∙ of_closed e.state closed }
gives_closed made (Ends session) l k after all = tt

pub all_closed : (made : List Call) (l : Ledger) (cs : List Call) (m : Ledger) → Ascends l → AllByRecursion (StandsIn made) l.pending → Runs l cs m → AllGiveClosed made cs
all_closed made l [] m a all run = tt
all_closed made l (c ∷ cs) m a all (k, after, rest) =
    (gives_closed made c l k after all, all_closed (made ++ c ∷ []) k cs m (ascends_after c l k after a) (stands_after made c l k after a all) rest)
