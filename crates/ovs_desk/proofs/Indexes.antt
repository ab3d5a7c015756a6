-- The lists by asker: where the requests stand that they name, and what a call makes of them.
use Rattle.std.proofs.Common.{◌≡◌, ◌⊎◌, inl, inr, ◌∙◌, ◌==◌, ◌&&◌, ◌||◌, ◌*◌, ◌+◌, ℕ, zero, suc, ◌<◌, ◌≤◌, List, [], ◌∷◌, ◌++◌, Bool, true, false, cond, Option, Some, None, length, get_or, drop, map, not, refl, sym, ap, subst, arith}
use Rattle.std.proofs.Common.{length-append}
use Rattle.std.proofs.lemmas.Bool.{lt-ltb, le-ltb, ltb-true, ltb-false, cases_order}
use Rattle.std.specs.Prelude.{nat_lt, position, option_map, is_some}
use Rattle.std.specs.List.{AllByRecursion, find, list_any, position_or_len}
use Rattle.std.specs.List.Sorted.{IsPartitionPoint}
use Rattle.ovs_desk.specs.declared.standing.StandingAnswer.{StandingAnswer}
use Rattle.ovs_desk.specs.declared.by_asker.ByAsker.{ByAsker}
use Rattle.ovs_desk.specs.declared.forwarded.Forwarded.{Forwarded}
use Rattle.ovs_desk.specs.declared.forwarded.ForwardedState.{ForwardedState}
use Rattle.ovs_desk.specs.declared.forwarded.ForwardedState.TheVariants.{Waiting, Taken, Answered, Lost}
use Rattle.ovs_desk.specs.declared.forwarded.RequestFilter.TheVariants.{ToGo, Open, Of}
use Rattle.ovs_desk.specs.Book.{AscendIn, IsIndex, is_any, is_due}
use Rattle.ovs_desk.specs.ByAsker.{InOrder, put, without, first_number, by_asker, listed}
use Rattle.ovs_desk.specs.Ledger.{passes, is_open, is_waiting, taken, answered, lost, at_first, without_first}
use Rattle.ovs_desk.proofs.ByAskers.{in_order, all_listed, fewer_listed, length_put, listed_more, listed_same, listed_anew, listed_all, listed_without, first_listed, number_of}
use Rattle.ovs_desk.proofs.Firsts.{hit, miss}
use Rattle.ovs_desk.proofs.Search.{nobody, numbers_ascend}
use Rattle.ovs_desk.proofs.Steps.{both, length_first, length_all, length_without}

-- ---- where a request stands

none_there : (p : Forwarded → Bool) (es : List Forwarded) → find p es ≡ None → position p es ≡ None
none_there p es none = by (position p es) refl
  where
    by : (o : Option ℕ) → position p es ≡ o → position p es ≡ None
    by None is = is
    by (Some i) is = absurd (let clash = sym none ∙ (hit p es i nobody is).found in cc)

numbered_at : (p : Forwarded → Bool) (high : ℕ) (es : List Forwarded) (r : Forwarded) (at : ℕ) → AscendIn 0 high es → find p es ≡ Some r
    → IsPartitionPoint (λ (e : Forwarded). nat_lt e.number r.number ≡ true) (λ (e : Forwarded). nat_lt e.number r.number ≡ false) es at → position p es ≡ Some at
numbered_at p high es r at a is parts = by (position p es) refl
  where
    by : (o : Option ℕ) → position p es ≡ o → position p es ≡ Some at
    by None none = absurd (let clash = sym is ∙ (miss p es none).found in cc)
    by (Some i) some = some ∙ ap (λ (n : ℕ). Some n) (same (cases_order i at))
      where
        here : get_or es i r ≡ r
        here = let found = sym (hit p es i r some).found ∙ is in cc

        same : ((i ≡ at) ⊎ ((i < at) ⊎ (at < i))) → i ≡ at
        same (inl e) = e
        same (inr (inl less)) =
            let low = ltb-true (get_or es i r).number r.number (parts.0 i r (omega arith) less) in
            let number = ap (λ (e : Forwarded). e.number) here in
            absurd (omega (arith, low, number))
        same (inr (inr more)) =
            let within = (hit p es i r some).within in
            let above = ltb-false (get_or es at r).number r.number (parts.1 at r (omega arith) (omega (arith, more, within))) in
            let up = numbers_ascend 0 high es at i r a more within in
            let number = ap (λ (e : Forwarded). e.number) here in
            absurd (omega (arith, above, up, number))

and_true : (b : Bool) → b ≡ (b && true)
and_true true = refl
and_true false = refl

module _ (session : ℕ) (test p : Forwarded → Bool) (is : (e : Forwarded) → p e ≡ ((e.asker == session) && test e)) (high : ℕ) (es : List Forwarded) (ascend : AscendIn 0 high es)
    (every : List ByAsker) (all : every ≡ listed test es) where
  same_number : first_number session every ≡ option_map number_of (find p es)
  same_number = ap (first_number session) all ∙ first_listed session test p is 0 high es ascend

  pub no_place : first_number session every ≡ None → position p es ≡ None
  no_place none = by (find p es) refl
    where
      by : (o : Option Forwarded) → find p es ≡ o → position p es ≡ None
      by None so = none_there p es so
      by (Some r) so = absurd (let clash = sym none ∙ same_number ∙ ap (option_map number_of) so in cc)

  pub place_of_first : (n at : ℕ) → first_number session every ≡ Some n
      → IsPartitionPoint (λ (e : Forwarded). nat_lt e.number n ≡ true) (λ (e : Forwarded). nat_lt e.number n ≡ false) es at → position p es ≡ Some at
  place_of_first n at some parts = by (find p es) refl
    where
      by : (o : Option Forwarded) → find p es ≡ o → position p es ≡ Some at
      by None so = absurd (let clash = sym some ∙ same_number ∙ ap (option_map number_of) so in cc)
      by (Some r) so =
          let number : n ≡ r.number = (let found = sym some ∙ same_number ∙ ap (option_map number_of) so in cc) in
          numbered_at p high es r at ascend so
          (subst (λ (m : ℕ). IsPartitionPoint (λ (e : Forwarded). nat_lt e.number m ≡ true) (λ (e : Forwarded). nat_lt e.number m ≡ false) es at) number parts)

  some_any : (fs : List Forwarded) → is_some (option_map number_of (find p fs)) ≡ list_any p fs
  some_any [] = refl
  some_any (e ∷ fs) = by (p e) (some_any fs)
    where
      by : (b : Bool) → is_some (option_map number_of (find p fs)) ≡ list_any p fs → is_some (option_map number_of (cond b (Some e) (find p fs))) ≡ (b || list_any p fs)
      by true h = refl
      by false h = h

  pub any_first : is_some (first_number session every) ≡ list_any p es
  any_first = ap (λ (o : Option ℕ). is_some o) same_number ∙ some_any es

pub of_is : (session : ℕ) (e : Forwarded) → passes (Of session) e ≡ ((e.asker == session) && is_any e)
of_is session e = and_true (e.asker == session)

-- ---- behind those that don't pass

less_after : (n a b : ℕ) → nat_lt (n + a) (n + b) ≡ nat_lt a b
less_after n a b = by (cases_order a b)
  where
    by : ((a ≡ b) ⊎ ((a < b) ⊎ (b < a))) → nat_lt (n + a) (n + b) ≡ nat_lt a b
    by (inl e) = le-ltb (n + a) (n + b) (omega (arith, e)) ∙ sym (le-ltb a b (omega (arith, e)))
    by (inr (inl less)) = lt-ltb (n + a) (n + b) (omega (arith, less)) ∙ sym (lt-ltb a b less)
    by (inr (inr more)) = le-ltb (n + a) (n + b) (omega (arith, more)) ∙ sym (le-ltb a b (omega (arith, more)))

module _ (p : Forwarded → Bool) where
  place_after : (es : List Forwarded) (from : ℕ) → from ≤ length es → ((k : ℕ) (d : Forwarded) → k < from → p (get_or es k d) ≡ false)
      → (position_or_len p es ≡ from + position_or_len p (drop from es)) × (length es ≡ from + length (drop from es))
  place_after es zero h fails = (omega arith, omega arith)
  place_after [] (suc from) h fails = absurd (omega (arith, h))
  place_after (e ∷ es) (suc from) h fails =
      let no : p e ≡ false = fails 0 e (omega arith) in
      let later = place_after es from (omega (arith, h)) (λ k d less. fails (suc k) d (omega (arith, less))) in
      let first = later.0 in
      let second = later.1 in
      (rw no (omega (arith, first)), omega (arith, second))

  pub position_after : (es : List Forwarded) (from : ℕ) → from ≤ length es → ((k : ℕ) (d : Forwarded) → k < from → p (get_or es k d) ≡ false)
      → position p es ≡ option_map (λ n. from + n) (position p (drop from es))
  position_after es from h fails = whole ∙ by (nat_lt place len)
    where
      place : ℕ
      place = position_or_len p (drop from es)

      len : ℕ
      len = length (drop from es)

      whole : position p es ≡ cond (nat_lt place len) (Some (from + place)) None
      whole =
          (λ i. cond (nat_lt ((place_after es from h fails).0 i) ((place_after es from h fails).1 i)) (Some ((place_after es from h fails).0 i)) None)
          ∙ ap (λ (b : Bool). cond b (Some (from + place)) None) (less_after from place len)

      by : (b : Bool) → cond b (Some (from + place)) None ≡ option_map (λ n. from + n) (cond b (Some place) None)
      by true = refl
      by false = refl

all_at : (P : Forwarded → Type 0) (es : List Forwarded) (k : ℕ) (d : Forwarded) → AllByRecursion P es → k < length es → P (get_or es k d)
all_at P [] k d all h = absurd (omega arith)
all_at P (e ∷ es) zero d all h = all.0
all_at P (e ∷ es) (suc k) d all h = all_at P es k d all.1 (omega (arith, h))

abbrev pub WaitFrom : ℕ → List Forwarded → Type 0
WaitFrom low es = AllByRecursion (λ (e : Forwarded). is_waiting e.state ≡ true → low ≤ e.number) es

-- none waits before the number
pub none_waits : (low : ℕ) (es : List Forwarded) (from : ℕ) → WaitFrom low es → from ≤ length es
    → IsPartitionPoint (λ (e : Forwarded). nat_lt e.number low ≡ true) (λ (e : Forwarded). nat_lt e.number low ≡ false) es from
    → (k : ℕ) (d : Forwarded) → k < from → passes ToGo (get_or es k d) ≡ false
none_waits low es from up within parts k d less = by (is_waiting (get_or es k d).state) refl
  where
    by : (b : Bool) → is_waiting (get_or es k d).state ≡ b → is_waiting (get_or es k d).state ≡ false
    by true waits =
        let below = ltb-true (get_or es k d).number low (parts.0 k d (omega arith) less) in
        let above = all_at (λ (e : Forwarded). is_waiting e.state ≡ true → low ≤ e.number) es k d up (omega (arith, less, within)) waits in
        absurd (omega (arith, below, above))
    by false waits = waits

-- ---- what stays

module _ (P : Forwarded → Type 0) (p : Forwarded → Bool) where
  all_first : (f : Forwarded → Forwarded) → ((e : Forwarded) → P e → P (f e)) → (es : List Forwarded) → AllByRecursion P es → AllByRecursion P (at_first p f es)
  all_first f keeps [] all = tt
  all_first f keeps (e ∷ es) all = by (p e) (all_first f keeps es all.1)
    where
      by : (b : Bool) → AllByRecursion P (at_first p f es) → AllByRecursion P (cond b (f e ∷ es) (e ∷ at_first p f es))
      by true later = (keeps e all.0, all.1)
      by false later = (all.0, later)

  all_without : (es : List Forwarded) → AllByRecursion P es → AllByRecursion P (without_first p es)
  all_without [] all = tt
  all_without (e ∷ es) all = by (p e) (all_without es all.1)
    where
      by : (b : Bool) → AllByRecursion P (without_first p es) → AllByRecursion P (cond b es (e ∷ without_first p es))
      by true later = all.1
      by false later = (all.0, later)

all_mapped : (P : Forwarded → Type 0) (f : Forwarded → Forwarded) → ((e : Forwarded) → P (f e)) → (es : List Forwarded) → AllByRecursion P (map f es)
all_mapped P f keeps [] = tt
all_mapped P f keeps (e ∷ es) = (keeps e, all_mapped P f keeps es)

all_more : (P : Forwarded → Type 0) (es : List Forwarded) (e : Forwarded) → AllByRecursion P es → P e → AllByRecursion P (es ++ e ∷ [])
all_more P [] e all one = (one, tt)
all_more P (f ∷ es) e all one = (all.0, all_more P es e all.1 one)

numbers_from : (low high : ℕ) (es : List Forwarded) (n : ℕ) → AscendIn low high es → n ≤ low → WaitFrom n es
numbers_from low high [] n a h = tt
numbers_from low high (e ∷ es) n a h = ((λ waits. omega (arith, h, a.0)), numbers_from (suc e.number) high es n a.1 (omega (arith, h, a.0)))

within : (low high : ℕ) (es : List Forwarded) → AscendIn low high es → low ≤ high
within low high [] a = a
within low high (e ∷ es) a = let more = within (suc e.number) high es a.1 in omega (arith, more, a.0)

found_below : (p : Forwarded → Bool) (low high : ℕ) (es : List Forwarded) (r : Forwarded) → AscendIn low high es → find p es ≡ Some r → r.number < high
found_below p low high [] r a is = absurd cc
found_below p low high (e ∷ es) r a is = by (p e) is (found_below p (suc e.number) high es r a.1)
  where
    by : (b : Bool) → cond b (Some e) (find p es) ≡ Some r → (find p es ≡ Some r → r.number < high) → r.number < high
    by true here later = (let same : e ≡ r = cc in let more = within (suc e.number) high es a.1 in subst (λ (x : Forwarded). x.number < high) same (omega (arith, more)))
    by false here later = later here

-- ---- what a call makes of the lists

waits_not_due : (s : ForwardedState) → is_waiting s ≡ true → false ≡ not (is_open s)
waits_not_due (Waiting request) h = refl
waits_not_due Taken h = refl
waits_not_due (Answered answer) h = absurd cc
waits_not_due Lost h = absurd cc

wait_from : (low high : ℕ) (es : List Forwarded) (r : Forwarded) → AscendIn low high es → find (passes ToGo) es ≡ Some r → WaitFrom r.number (at_first (passes ToGo) taken es)
wait_from low high [] r a is = tt
wait_from low high (e ∷ es) r a is = by (is_waiting e.state) refl is (λ here. wait_from (suc e.number) high es r a.1 here)
  where
    by : (b : Bool) → is_waiting e.state ≡ b → cond b (Some e) (find (passes ToGo) es) ≡ Some r
        → (find (passes ToGo) es ≡ Some r → WaitFrom r.number (at_first (passes ToGo) taken es)) → WaitFrom r.number (cond b (taken e ∷ es) (e ∷ at_first (passes ToGo) taken es))
    by true waits here later =
        let same : e ≡ r = cc in
        subst (λ (x : Forwarded). WaitFrom x.number (taken e ∷ es)) same ((λ h. absurd cc), numbers_from (suc e.number) high es e.number a.1 (omega arith))
    by false waits here later = ((λ h. absurd (let clash = sym waits ∙ h in cc)), later here)

lost_state : (e : Forwarded) (b : Bool) → is_open e.state ≡ b → (by_asker (lost e) ≡ by_asker e) × ((is_due (lost e) ≡ true) × (is_waiting (lost e).state ≡ false))
lost_state e true is = rw is (refl, (refl, refl))
lost_state e false is = rw is (refl, (rw is refl, closed e.state is))
  where
    closed : (s : ForwardedState) → is_open s ≡ false → is_waiting s ≡ false
    closed (Waiting request) h = absurd cc
    closed Taken h = absurd cc
    closed (Answered answer) h = refl
    closed Lost h = refl

module _ {sent : ℕ} {es : List Forwarded} {low : ℕ} {every owed : List ByAsker} {room : ℕ} (x : IsIndex sent es low every owed room) where
  pub all_in_order : InOrder every
  all_in_order = subst (λ (l : List ByAsker). InOrder l) (sym x.all) (in_order is_any es)

  pub due_in_order : InOrder owed
  due_in_order = subst (λ (l : List ByAsker). InOrder l) (sym x.due) (in_order is_due es)

  pub as_many : length every ≡ length es
  as_many = ap (λ (l : List ByAsker). length l) x.all ∙ all_listed is_any (λ e. refl) es

  pub index_room : (more : ℕ) → room ≤ more → IsIndex sent es low every owed more
  index_room more h = record { all = x.all; due = x.due; room = (let fits = x.room in omega (arith, h, fits)); up = x.up; past = x.past }

  pub index_more : (e : Forwarded) (more : ℕ) → is_due e ≡ false → 4096 * sent ≤ e.number → length es < more
      → IsIndex (sent + 1) (es ++ e ∷ []) low (put (by_asker e) every) owed more
  index_more e more undue new fits = record {
    all = ap (put (by_asker e)) x.all ∙ sym (listed_more is_any es e);
    due = x.due ∙ sym (listed_more is_due es e ∙ ap (λ (b : Bool). cond b (put (by_asker e) (listed is_due es)) (listed is_due es)) undue);
    room = (let longer = length-append es (e ∷ []) in omega (arith, longer, fits));
    up = all_more (λ (e : Forwarded). is_waiting e.state ≡ true → low ≤ e.number) es e x.up (λ waits. let past = x.past in omega (arith, past, new));
    past = (let past = x.past in omega (arith, past));
  }

  pub index_taken : (r : Forwarded) → AscendIn 0 (4096 * sent) es → find (passes ToGo) es ≡ Some r → IsIndex sent (at_first (passes ToGo) taken es) r.number every owed room
  index_taken r a is = record {
    all = x.all ∙ sym (listed_same (passes ToGo) taken (λ e. refl) is_any (λ e waits. refl) es);
    due = x.due ∙ sym (listed_same (passes ToGo) taken (λ e. refl) is_due (λ e waits. waits_not_due e.state waits) es);
    room = (let same = length_first (passes ToGo) taken es in let fits = x.room in omega (arith, same, fits));
    up = wait_from 0 (4096 * sent) es r a is;
    past = (let below = found_below (passes ToGo) 0 (4096 * sent) es r a is in omega (arith, below));
  }

  pub index_answered : (n : ℕ) (answer : StandingAnswer) (r : Forwarded) → find (passes (Open n)) es ≡ Some r
      → IsIndex sent (at_first (passes (Open n)) (answered answer) es) low every (put (by_asker r) owed) room
  index_answered n answer r is = record {
    all = x.all ∙ sym (listed_same (passes (Open n)) (answered answer) (λ e. refl) is_any (λ e waits. refl) es);
    due = ap (put (by_asker r)) x.due
        ∙ sym (listed_anew (passes (Open n)) (answered answer) (λ e. refl) is_due (λ e waits. ap not (both (e.number == n) (is_open e.state) waits).1) (λ e. refl) es r is);
    room = (let same = length_first (passes (Open n)) (answered answer) es in let fits = x.room in omega (arith, same, fits));
    up = all_first (λ (e : Forwarded). is_waiting e.state ≡ true → low ≤ e.number) (passes (Open n)) (answered answer) (λ e waits h. absurd cc) es x.up;
    past = x.past;
  }

  -- one more is due, and there is room for it
  pub room_for_answer : (n : ℕ) (answer : StandingAnswer) (r : Forwarded) → find (passes (Open n)) es ≡ Some r → length owed < room
  room_for_answer n answer r is =
      let y = index_answered n answer r is in
      let fewer : length (put (by_asker r) owed) ≤ length (at_first (passes (Open n)) (answered answer) es) =
      subst (λ (l : List ByAsker). length l ≤ length (at_first (passes (Open n)) (answered answer) es)) (sym y.due) (fewer_listed is_due (at_first (passes (Open n)) (answered answer) es)) in
      let one = length_put (by_asker r) owed in
      let fits = y.room in
      omega (arith, fewer, one, fits)

  pub index_lost : IsIndex sent (map lost es) (4096 * sent) every every room
  index_lost = record {
    all = x.all ∙ sym (listed_all is_any is_any lost (λ e. (lost_state e (is_open e.state) refl).0) (λ e. refl) (λ e. refl) es);
    due = x.all ∙ sym (listed_all is_due is_any lost (λ e. (lost_state e (is_open e.state) refl).0) (λ e. (lost_state e (is_open e.state) refl).1.0) (λ e. refl) es);
    room = (let same = length_all lost es in let fits = x.room in omega (arith, same, fits));
    up = all_mapped (λ (e : Forwarded). is_waiting e.state ≡ true → 4096 * sent ≤ e.number) lost (λ e waits. absurd (let clash = sym waits ∙ (lost_state e (is_open e.state) refl).1.1 in cc)) es;
    past = omega arith;
  }

  pub index_without : (p : Forwarded → Bool) (high : ℕ) (r : Forwarded) → AscendIn 0 high es → find p es ≡ Some r
      → IsIndex sent (without_first p es) low (without (by_asker r) every) (without (by_asker r) owed) room
  index_without p high r a is = record {
    all = ap (without (by_asker r)) x.all ∙ sym (listed_without p is_any 0 high es r a is);
    due = ap (without (by_asker r)) x.due ∙ sym (listed_without p is_due 0 high es r a is);
    room = (let one = length_without p es r is in let fits = x.room in omega (arith, one, fits));
    up = all_without (λ (e : Forwarded). is_waiting e.state ≡ true → low ≤ e.number) p es x.up;
    past = x.past;
  }
