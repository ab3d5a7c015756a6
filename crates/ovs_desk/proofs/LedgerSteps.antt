-- What each call leaves of a ledger.
use Rattle.std.proofs.Common.{◌≡◌, ℕ, suc, ◌+◌, ◌*◌, ◌<◌, ◌≤◌, List, [], ◌∷◌, ◌++◌, Bool, true, false, cond, Some, refl, sym, ap, subst, arith}
use Rattle.std.specs.Prelude.{◌==◌, not, map, filter, ⊤}
use Rattle.std.specs.List.{find, AllByRecursion}
use Rattle.ovs_desk.specs.declared.forwarded.Forwarded.{Forwarded}
use Rattle.ovs_desk.specs.declared.forwarded.ForwardedState.{ForwardedState}
use Rattle.ovs_desk.specs.declared.forwarded.ForwardedState.TheVariants.{Taken, Answered, Lost}
use Rattle.ovs_desk.specs.declared.forwarded.RequestFilter.TheVariants.{ToGo, Open, Due}
use Rattle.ovs_desk.specs.Book.{AscendIn}
use Rattle.ovs_desk.specs.Calls.{Call, Sends, TakesUp, Replies, LosesSource, Collects, Ends, After, sent_by}
use Rattle.ovs_desk.specs.Ledger.{Ledger, is_open, passes, with_state, taken, answered, lost, at_first, without_first}
use Rattle.ovs_desk.proofs.Numbers.{from_lower, one_more, changed_first, all_changed, without}

-- ---- what holds of each request

module _ (P : Forwarded → Type 0) where
  all_last : (es : List Forwarded) (e : Forwarded) → AllByRecursion P es → P e → AllByRecursion P (es ++ e ∷ [])
  all_last [] e all last = (last, tt)
  all_last (x ∷ es) e all last = (all.0, all_last es e all.1 last)

  all_first : (test : Forwarded → Bool) (f : Forwarded → Forwarded) → ((e : Forwarded) → P e → P (f e)) → (es : List Forwarded) → AllByRecursion P es → AllByRecursion P (at_first test f es)
  all_first test f keeps [] all = tt
  all_first test f keeps (e ∷ es) all = by (test e) (all_first test f keeps es all.1)
    where
      by : (b : Bool) → AllByRecursion P (at_first test f es) → AllByRecursion P (cond b (f e ∷ es) (e ∷ at_first test f es))
      by true rest = (keeps e all.0, all.1)
      by false rest = (all.0, rest)

  all_map : (f : Forwarded → Forwarded) → ((e : Forwarded) → P e → P (f e)) → (es : List Forwarded) → AllByRecursion P es → AllByRecursion P (map f es)
  all_map f keeps [] all = tt
  all_map f keeps (e ∷ es) all = (keeps e all.0, all_map f keeps es all.1)

  all_without : (test : Forwarded → Bool) (es : List Forwarded) → AllByRecursion P es → AllByRecursion P (without_first test es)
  all_without test [] all = tt
  all_without test (e ∷ es) all = by (test e) (all_without test es all.1)
    where
      by : (b : Bool) → AllByRecursion P (without_first test es) → AllByRecursion P (cond b es (e ∷ without_first test es))
      by true rest = all.1
      by false rest = (all.0, rest)

  all_filter : (test : Forwarded → Bool) (es : List Forwarded) → AllByRecursion P es → AllByRecursion P (filter test es)
  all_filter test [] all = tt
  all_filter test (e ∷ es) all = by (test e) (all_filter test es all.1)
    where
      by : (b : Bool) → AllByRecursion P (filter test es) → AllByRecursion P (cond b (e ∷ filter test es) (filter test es))
      by true rest = (all.0, rest)
      by false rest = rest

  pub all_found : (test : Forwarded → Bool) (es : List Forwarded) (r : Forwarded) → AllByRecursion P es → find test es ≡ Some r → P r
  all_found test [] r all is = absurd cc
  all_found test (e ∷ es) r all is = by (test e) is (all_found test es r all.1)
    where
      by : (b : Bool) → cond b (Some e) (find test es) ≡ Some r → (find test es ≡ Some r → P r) → P r
      by true here more = (let same : e ≡ r = cc in subst P same all.0)
      by false there more = more there

  -- of a request that is sent
  abbrev pub Fresh : Call → Type 0
  Fresh (Sends session id request n) = P (sent_by session id request n)
  Fresh (TakesUp up) = ⊤
  Fresh (Replies n answer) = ⊤
  Fresh LosesSource = ⊤
  Fresh (Collects session back) = ⊤
  Fresh (Ends session) = ⊤

  lost_keeps : ((state : ForwardedState) (e : Forwarded) → P e → P (with_state state e)) → (e : Forwarded) → P e → P (lost e)
  lost_keeps stays e holds = by (is_open e.state)
    where
      by : (b : Bool) → P (cond b (with_state Lost e) e)
      by true = stays Lost e holds
      by false = holds

  -- what holds of each, however far it has come, holds after a call
  pub all_after : ((state : ForwardedState) (e : Forwarded) → P e → P (with_state state e)) → (c : Call) (l k : Ledger) → After c l k → Fresh c
      → AllByRecursion P l.pending → AllByRecursion P k.pending
  all_after stays (Sends session id request n) l k (number, then) fresh all = subst (λ (x : Ledger). AllByRecursion P x.pending) (sym then) (all_last l.pending (sent_by session id request n) all fresh)
  all_after stays (TakesUp up) l k (is, then) fresh all =
      subst (λ (x : Ledger). AllByRecursion P x.pending) (sym then) (all_first (passes ToGo) taken (stays Taken) l.pending all)
  all_after stays (Replies n answer) l k then fresh all =
      subst (λ (x : Ledger). AllByRecursion P x.pending) (sym then) (all_first (passes (Open n)) (answered answer) (stays (Answered answer)) l.pending all)
  all_after stays LosesSource l k then fresh all = subst (λ (x : Ledger). AllByRecursion P x.pending) (sym then) (all_map lost (lost_keeps stays) l.pending all)
  all_after stays (Collects session back) l k (is, then) fresh all = subst (λ (x : Ledger). AllByRecursion P x.pending) (sym then) (all_without (passes (Due session)) l.pending all)
  all_after stays (Ends session) l k then fresh all = subst (λ (x : Ledger). AllByRecursion P x.pending) (sym then) (all_filter (λ e. not (e.asker == session)) l.pending all)

-- ---- numbers

ascend_filter : (test : Forwarded → Bool) (low high : ℕ) (es : List Forwarded) → AscendIn low high es → AscendIn low high (filter test es)
ascend_filter test low high [] a = a
ascend_filter test low high (e ∷ es) a = by (test e) (ascend_filter test (suc e.number) high es a.1)
  where
    by : (b : Bool) → AscendIn (suc e.number) high (filter test es) → AscendIn low high (cond b (e ∷ filter test es) (filter test es))
    by true rest = (a.0, rest)
    by false rest = from_lower low (suc e.number) high (filter test es) (let least = a.0 in omega (arith, least)) rest

lost_number : (e : Forwarded) → (lost e).number ≡ e.number
lost_number e = by (is_open e.state)
  where
    by : (b : Bool) → (cond b (with_state Lost e) e).number ≡ e.number
    by true = refl
    by false = refl

-- the numbers ascend, and those to come are greater
abbrev pub Ascends : Ledger → Type 0
Ascends l = AscendIn 0 (4096 * l.sent) l.pending

pub ascends_after : (c : Call) (l k : Ledger) → After c l k → Ascends l → Ascends k
ascends_after (Sends session id request n) l k ((place, below, is, apart), then) a =
    subst Ascends (sym then) (one_more 0 (4096 * l.sent) (4096 * (l.sent + 1)) l.pending (sent_by session id request n) a (omega (arith, is)) (omega (arith, is, below)))
ascends_after (TakesUp up) l k (is, then) a = subst Ascends (sym then) (changed_first taken (λ e. refl) (passes ToGo) 0 (4096 * l.sent) l.pending a)
ascends_after (Replies n answer) l k then a = subst Ascends (sym then) (changed_first (answered answer) (λ e. refl) (passes (Open n)) 0 (4096 * l.sent) l.pending a)
ascends_after LosesSource l k then a = subst Ascends (sym then) (all_changed lost lost_number 0 (4096 * l.sent) l.pending a)
ascends_after (Collects session back) l k (is, then) a = subst Ascends (sym then) (without (passes (Due session)) 0 (4096 * l.sent) l.pending a)
ascends_after (Ends session) l k then a = subst Ascends (sym then) (ascend_filter (λ e. not (e.asker == session)) 0 (4096 * l.sent) l.pending a)

-- no number is forgotten
pub sent_after : (c : Call) (l k : Ledger) → After c l k → l.sent ≤ k.sent
sent_after (Sends session id request n) l k (number, then) = (let s : k.sent ≡ l.sent + 1 = ap (λ (x : Ledger). x.sent) then in omega (arith, s))
sent_after (TakesUp up) l k (is, then) = (let s : k.sent ≡ l.sent = ap (λ (x : Ledger). x.sent) then in omega (arith, s))
sent_after (Replies n answer) l k then = (let s : k.sent ≡ l.sent = ap (λ (x : Ledger). x.sent) then in omega (arith, s))
sent_after LosesSource l k then = (let s : k.sent ≡ l.sent = ap (λ (x : Ledger). x.sent) then in omega (arith, s))
sent_after (Collects session back) l k (is, then) = (let s : k.sent ≡ l.sent = ap (λ (x : Ledger). x.sent) then in omega (arith, s))
sent_after (Ends session) l k then = (let s : k.sent ≡ l.sent = ap (λ (x : Ledger). x.sent) then in omega (arith, s))

-- one that is found has a number in their bounds
pub in_bounds : (test : Forwarded → Bool) (low high : ℕ) (es : List Forwarded) (r : Forwarded) → AscendIn low high es → find test es ≡ Some r → (low ≤ r.number) × (r.number < high)
in_bounds test low high [] r a is = absurd cc
in_bounds test low high (e ∷ es) r a is = by (test e) is (in_bounds test (suc e.number) high es r a.1)
  where
    top : (n : ℕ) (xs : List Forwarded) → AscendIn n high xs → n ≤ high
    top n [] b = b
    top n (x ∷ xs) b = let more = top (suc x.number) xs b.1 in let least = b.0 in omega (arith, more, least)

    by : (b : Bool) → cond b (Some e) (find test es) ≡ Some r → (find test es ≡ Some r → (suc e.number ≤ r.number) × (r.number < high)) → (low ≤ r.number) × (r.number < high)
    by true here more =
        let same : e.number ≡ r.number = (let one : e ≡ r = cc in ap (λ (x : Forwarded). x.number) one) in
        let least = a.0 in
        let most = top (suc e.number) es a.1 in
        (omega (arith, same, least), omega (arith, same, most))
    by false there more = let m = more there in let first = m.0 in let least = a.0 in (omega (arith, first, least), m.1)
