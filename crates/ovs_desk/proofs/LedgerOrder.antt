-- Every list of calls on the requests that are passed on: what goes up are requests as they were sent, in that order.
use Rattle.std.proofs.Common.{◌≡◌, List, [], ◌∷◌, ◌++◌, Bool, true, false, cond, Option, Some, None, refl, sym, ap, subst, ◌∙◌, inl, inr, append_assoc}
use Rattle.std.specs.Prelude.{◌==◌, not, map, filter, option_to_list}
use Rattle.std.specs.List.{find}
use Rattle.ovs_desk.specs.declared.standing.StandingAnswer.{StandingAnswer}
use Rattle.ovs_desk.specs.declared.forwarded.Forwarded.{Forwarded}
use Rattle.ovs_desk.specs.declared.forwarded.ForwardedState.{ForwardedState}
use Rattle.ovs_desk.specs.declared.forwarded.ForwardedState.TheVariants.{Waiting, Taken, Answered, Lost}
use Rattle.ovs_desk.specs.declared.forwarded.RequestFilter.TheVariants.{ToGo, Open, Due}
use Rattle.ovs_desk.specs.Calls.{Call, Sends, TakesUp, Replies, LosesSource, Collects, Ends, After, sent_by}
use Rattle.ovs_desk.specs.Ledger.{Ledger, is_open, is_waiting, passes, with_state, taken, answered, lost, at_first, without_first}
use Rattle.ovs_desk.specs.Runs.{Runs, sent_in, sent, taken_up_in, taken_up, IsPartOf}

-- ---- parts of lists

part_behind : (xs ys : List Forwarded) (y : Forwarded) → IsPartOf xs ys → IsPartOf xs (y ∷ ys)
part_behind [] ys y part = tt
part_behind (x ∷ xs) ys y part = inr part

part_back : (xs ys zs : List Forwarded) → IsPartOf xs ys → IsPartOf xs (zs ++ ys)
part_back xs ys [] part = part
part_back xs ys (z ∷ zs) part = part_behind xs (zs ++ ys) z (part_back xs ys zs part)

pub part_itself : (xs : List Forwarded) → IsPartOf xs xs
part_itself [] = tt
part_itself (x ∷ xs) = inl (refl, part_itself xs)

-- a part of more is a part where more is in front
widen : (xs narrow wide ys : List Forwarded) → IsPartOf narrow wide → IsPartOf xs (narrow ++ ys) → IsPartOf xs (wide ++ ys)
widen xs [] wide ys in_wide part = part_back xs ys wide part
widen xs (a ∷ narrow) [] ys in_wide part = absurd in_wide
widen xs (a ∷ narrow) (b ∷ wide) ys (inr later) part = part_behind xs (wide ++ ys) b (widen xs (a ∷ narrow) wide ys later part)
widen [] (a ∷ narrow) (b ∷ wide) ys (inl (same, later)) part = tt
widen (x ∷ xs) (a ∷ narrow) (b ∷ wide) ys (inl (same, later)) (inl (is, rest)) = inl (is ∙ same, widen xs narrow wide ys later rest)
widen (x ∷ xs) (a ∷ narrow) (b ∷ wide) ys (inl (same, later)) (inr rest) = inr (widen (x ∷ xs) narrow wide ys later rest)

-- ---- what waits to go up

abbrev waiting : List Forwarded → List Forwarded
waiting es = filter (passes ToGo) es

waiting_filter : (test : Forwarded → Bool) (es : List Forwarded) → IsPartOf (waiting (filter test es)) (waiting es)
waiting_filter test [] = tt
waiting_filter test (e ∷ es) = by (test e) (is_waiting e.state) refl (waiting_filter test es)
  where
    by : (a b : Bool) → is_waiting e.state ≡ b → IsPartOf (waiting (filter test es)) (waiting es) → IsPartOf (waiting (cond a (e ∷ filter test es) (filter test es))) (cond b (e ∷ waiting es) (waiting es))
    by true true is rest = rw is (inl (refl, rest))
    by true false is rest = rw is rest
    by false true is rest = part_behind (waiting (filter test es)) (waiting es) e rest
    by false false is rest = rest

waiting_without : (test : Forwarded → Bool) (es : List Forwarded) → IsPartOf (waiting (without_first test es)) (waiting es)
waiting_without test [] = tt
waiting_without test (e ∷ es) = by (test e) (is_waiting e.state) refl (waiting_without test es)
  where
    by : (a b : Bool) → is_waiting e.state ≡ b → IsPartOf (waiting (without_first test es)) (waiting es)
        → IsPartOf (waiting (cond a es (e ∷ without_first test es))) (cond b (e ∷ waiting es) (waiting es))
    by true true is rest = part_behind (waiting es) (waiting es) e (part_itself (waiting es))
    by true false is rest = part_itself (waiting es)
    by false true is rest = rw is (inl (refl, rest))
    by false false is rest = rw is rest

-- one that is answered waits no longer
waiting_answered : (test : Forwarded → Bool) (answer : StandingAnswer) (es : List Forwarded) → IsPartOf (waiting (at_first test (answered answer) es)) (waiting es)
waiting_answered test answer [] = tt
waiting_answered test answer (e ∷ es) = by (test e) (is_waiting e.state) refl (waiting_answered test answer es)
  where
    by : (a b : Bool) → is_waiting e.state ≡ b → IsPartOf (waiting (at_first test (answered answer) es)) (waiting es)
        → IsPartOf (waiting (cond a (answered answer e ∷ es) (e ∷ at_first test (answered answer) es))) (cond b (e ∷ waiting es) (waiting es))
    by true true is rest = part_behind (waiting es) (waiting es) e (part_itself (waiting es))
    by true false is rest = part_itself (waiting es)
    by false true is rest = rw is (inl (refl, rest))
    by false false is rest = rw is rest

lost_waits : (e : Forwarded) → is_waiting (lost e).state ≡ false
lost_waits e = by (is_open e.state) refl
  where
    closed : (s : ForwardedState) → is_open s ≡ false → is_waiting s ≡ false
    closed (Waiting request) h = absurd cc
    closed Taken h = refl
    closed (Answered answer) h = refl
    closed Lost h = refl

    by : (b : Bool) → is_open e.state ≡ b → is_waiting (cond b (with_state Lost e) e).state ≡ false
    by true is = refl
    by false is = closed e.state is

waiting_lost : (es : List Forwarded) → waiting (map lost es) ≡ []
waiting_lost [] = refl
waiting_lost (e ∷ es) = rw (lost_waits e) (waiting_lost es)

waiting_sent : (es : List Forwarded) (e : Forwarded) → is_waiting e.state ≡ true → waiting (es ++ e ∷ []) ≡ waiting es ++ e ∷ []
waiting_sent [] e is = rw is refl
waiting_sent (x ∷ es) e is = by (is_waiting x.state) (waiting_sent es e is)
  where
    by : (b : Bool) → waiting (es ++ e ∷ []) ≡ waiting es ++ e ∷ [] → cond b (x ∷ waiting (es ++ e ∷ [])) (waiting (es ++ e ∷ [])) ≡ cond b (x ∷ waiting es) (waiting es) ++ e ∷ []
    by true rest = ap (λ (xs : List Forwarded). x ∷ xs) rest
    by false rest = rest

-- the one that goes up was the first of them
waiting_taken : (es : List Forwarded) → waiting es ≡ option_to_list (find (passes ToGo) es) ++ waiting (at_first (passes ToGo) taken es)
waiting_taken [] = refl
waiting_taken (e ∷ es) = by (is_waiting e.state) refl (waiting_taken es)
  where
    by : (b : Bool) → is_waiting e.state ≡ b → waiting es ≡ option_to_list (find (passes ToGo) es) ++ waiting (at_first (passes ToGo) taken es)
        → cond b (e ∷ waiting es) (waiting es) ≡ option_to_list (cond b (Some e) (find (passes ToGo) es)) ++ waiting (cond b (taken e ∷ es) (e ∷ at_first (passes ToGo) taken es))
    by true is rest = refl
    by false is rest = rw is rest

-- ---- lists of calls

pub in_order : (l : Ledger) (cs : List Call) (m : Ledger) → Runs l cs m → IsPartOf (taken_up cs) (waiting l.pending ++ sent cs)
in_order l [] m r = tt
in_order l (c ∷ cs) m (k, after, rest) = of c after (in_order k cs m rest)
  where
    left : (es : List Forwarded) → k.pending ≡ es → IsPartOf (waiting es) (waiting l.pending) → IsPartOf (taken_up cs) (waiting k.pending ++ sent cs) → IsPartOf (taken_up cs) (waiting l.pending ++ sent cs)
    left es same less part =
        widen (taken_up cs) (waiting es) (waiting l.pending) (sent cs) less (subst (λ (xs : List Forwarded). IsPartOf (taken_up cs) (waiting xs ++ sent cs)) same part)

    of : (c : Call) → After c l k → IsPartOf (taken_up cs) (waiting k.pending ++ sent cs) → IsPartOf (taken_up_in c ++ taken_up cs) (waiting l.pending ++ (sent_in c ++ sent cs))
    of (Sends session id request n) (number, then) part =
        let e = sent_by session id request n in
        let same : waiting k.pending ++ sent cs ≡ waiting l.pending ++ (e ∷ sent cs) =
        ap (λ (x : Ledger). waiting x.pending ++ sent cs) then ∙ ap (λ (xs : List Forwarded). xs ++ sent cs) (waiting_sent l.pending e refl) ∙ append_assoc (waiting l.pending) (e ∷ []) (sent cs) in
        subst (λ (xs : List Forwarded). IsPartOf (taken_up cs) xs) same part
    of (TakesUp up) (is, then) part =
        let later = waiting (at_first (passes ToGo) taken l.pending) in
        let whole : waiting l.pending ++ sent cs ≡ option_to_list up ++ (later ++ sent cs) =
        ap (λ (xs : List Forwarded). xs ++ sent cs) (waiting_taken l.pending ∙ ap (λ (o : Option Forwarded). option_to_list o ++ later) (sym is)) ∙ append_assoc (option_to_list up) later (sent cs) in
        let rest : IsPartOf (taken_up cs) (later ++ sent cs) = subst (λ (x : Ledger). IsPartOf (taken_up cs) (waiting x.pending ++ sent cs)) then part in
        subst (λ (xs : List Forwarded). IsPartOf (option_to_list up ++ taken_up cs) xs) (sym whole) (first up (later ++ sent cs) rest)
      where
        first : (o : Option Forwarded) (xs : List Forwarded) → IsPartOf (taken_up cs) xs → IsPartOf (option_to_list o ++ taken_up cs) (option_to_list o ++ xs)
        first None xs more = more
        first (Some e) xs more = inl (refl, more)
    of (Replies n answer) then part = left (at_first (passes (Open n)) (answered answer) l.pending) (ap (λ (x : Ledger). x.pending) then) (waiting_answered (passes (Open n)) answer l.pending) part
    of LosesSource then part = left (map lost l.pending) (ap (λ (x : Ledger). x.pending) then) (subst (λ (xs : List Forwarded). IsPartOf xs (waiting l.pending)) (sym (waiting_lost l.pending)) tt) part
    of (Collects session back) (is, then) part = left (without_first (passes (Due session)) l.pending) (ap (λ (x : Ledger). x.pending) then) (waiting_without (passes (Due session)) l.pending) part
    of (Ends session) then part = left (filter (λ e. not (e.asker == session)) l.pending) (ap (λ (x : Ledger). x.pending) then) (waiting_filter (λ e. not (e.asker == session)) l.pending) part
