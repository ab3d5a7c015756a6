-- Lists of requests by their askers.
use Rattle.std.proofs.Common.{◌≡◌, ◌≢◌, ◌⊎◌, inl, inr, ◌∙◌, ◌==◌, ◌&&◌, ◌||◌, ℕ, zero, suc, ◌<◌, ◌≤◌, List, [], ◌∷◌, ◌++◌, Bool, true, false, cond, Option, Some, None, length, get_or, map, refl, sym, ap, subst, arith, one-add}
use Rattle.std.proofs.lemmas.Bool.{lt-ltb, le-ltb, ltb-true, ltb-false, eqb-true, eqb-false, eq-eqb, ne_eqb, cases_order}
use Rattle.std.specs.Prelude.{nat_lt, option_map, slice_get}
use Rattle.std.specs.List.{AllByRecursion, find, insert, remove}
use Rattle.std.specs.List.Sorted.{IsPartitionedBy}
use Rattle.ovs_desk.specs.declared.by_asker.ByAsker.{ByAsker}
use Rattle.ovs_desk.specs.declared.forwarded.Forwarded.{Forwarded}
use Rattle.ovs_desk.specs.Book.{AscendIn}
use Rattle.ovs_desk.specs.ByAsker.{is_before, is_same, is_this, InOrder, place, put, without, first_number, by_asker, listed}
use Rattle.ovs_desk.specs.Ledger.{at_first, without_first}

-- ---- the order

abbrev Before : ByAsker → ByAsker → Type 0
Before a b = (a.asker < b.asker) ⊎ ((a.asker ≡ b.asker) × (a.number < b.number))

before_by : (x y u v : ℕ) (less same : Bool) → nat_lt x y ≡ less → (x == y) ≡ same → (less || (same && nat_lt u v)) ≡ true → (x < y) ⊎ ((x ≡ y) × (u < v))
before_by x y u v true same l s h = inl (ltb-true x y l)
before_by x y u v false true l s h = inr (eqb-true x y s, ltb-true u v h)
before_by x y u v false false l s h = absurd cc

before : (a b : ByAsker) → is_before a b ≡ true → Before a b
before a b h = before_by a.asker b.asker a.number b.number (nat_lt a.asker b.asker) (a.asker == b.asker) refl refl h

is_so : (a b : ByAsker) → Before a b → is_before a b ≡ true
is_so a b (inl less) = rw (lt-ltb a.asker b.asker less) refl
is_so a b (inr (same, less)) = rw (le-ltb a.asker b.asker (omega (arith, same))) (rw (eq-eqb a.asker b.asker same) (lt-ltb a.number b.number less))

-- where it isn't before, it is the same or after
not_before_by : (x y u v : ℕ) (less same : Bool) → nat_lt x y ≡ less → (x == y) ≡ same → (less || (same && nat_lt u v)) ≡ false → (y < x) ⊎ ((y ≡ x) × (v ≤ u))
not_before_by x y u v true same l s h = absurd cc
not_before_by x y u v false true l s h = inr (sym (eqb-true x y s), ltb-false u v h)
not_before_by x y u v false false l s h = by (cases_order x y)
  where
    by : ((x ≡ y) ⊎ ((x < y) ⊎ (y < x))) → (y < x) ⊎ ((y ≡ x) × (v ≤ u))
    by (inl e) = absurd (eqb-false x y s e)
    by (inr (inl e)) = let more = ltb-false x y l in absurd (omega (arith, e, more))
    by (inr (inr e)) = inl e

not_before : (a b : ByAsker) → is_before a b ≡ false → (b.asker < a.asker) ⊎ ((b.asker ≡ a.asker) × (b.number ≤ a.number))
not_before a b h = not_before_by a.asker b.asker a.number b.number (nat_lt a.asker b.asker) (a.asker == b.asker) refl refl h

is_not : (a b : ByAsker) → ((b.asker < a.asker) ⊎ ((b.asker ≡ a.asker) × (b.number ≤ a.number))) → is_before a b ≡ false
is_not a b (inl less) = rw (le-ltb a.asker b.asker (omega (arith, less))) (rw (ne_eqb a.asker b.asker (λ e. absurd (omega (arith, less, e)))) refl)
is_not a b (inr (same, less)) = rw (le-ltb a.asker b.asker (omega (arith, same))) (rw (eq-eqb a.asker b.asker (sym same)) (le-ltb a.number b.number less))

asym : (a b : ByAsker) → is_before a b ≡ true → is_before b a ≡ false
asym a b h = is_not b a (by (before a b h))
  where
    by : Before a b → (a.asker < b.asker) ⊎ ((a.asker ≡ b.asker) × (a.number ≤ b.number))
    by (inl less) = inl less
    by (inr (same, less)) = inr (same, omega (arith, less))

-- what isn't after one that is before, is before
before_if : (c b k : ByAsker) → is_before c b ≡ false → is_before c k ≡ true → is_before b k ≡ true
before_if c b k n h = is_so b k (by (not_before c b n) (before c k h))
  where
    by : ((b.asker < c.asker) ⊎ ((b.asker ≡ c.asker) × (b.number ≤ c.number))) → Before c k → Before b k
    by (inl x) (inl y) = inl (omega (arith, x, y))
    by (inl x) (inr (y, u)) = inl (omega (arith, x, y))
    by (inr (x, u)) (inl y) = inl (omega (arith, x, y))
    by (inr (x, u)) (inr (y, v)) = inr (x ∙ y, omega (arith, u, v))

not_before_if : (x b a : ByAsker) → is_before x b ≡ false → is_before b a ≡ false → is_before x a ≡ false
not_before_if x b a n m = is_not x a (by (not_before x b n) (not_before b a m))
  where
    by : ((b.asker < x.asker) ⊎ ((b.asker ≡ x.asker) × (b.number ≤ x.number))) → ((a.asker < b.asker) ⊎ ((a.asker ≡ b.asker) × (a.number ≤ b.number)))
        → (a.asker < x.asker) ⊎ ((a.asker ≡ x.asker) × (a.number ≤ x.number))
    by (inl p) (inl q) = inl (omega (arith, p, q))
    by (inl p) (inr (q, v)) = inl (omega (arith, p, q))
    by (inr (p, u)) (inl q) = inl (omega (arith, p, q))
    by (inr (p, u)) (inr (q, v)) = inr (q ∙ p, omega (arith, u, v))

both_not : (a b : ByAsker) → is_before a b ≡ false → is_before b a ≡ false → a ≡ b
both_not a b n m = by (not_before a b n) (not_before b a m)
  where
    by : ((b.asker < a.asker) ⊎ ((b.asker ≡ a.asker) × (b.number ≤ a.number))) → ((a.asker < b.asker) ⊎ ((a.asker ≡ b.asker) × (a.number ≤ b.number))) → a ≡ b
    by (inl p) (inl q) = absurd (omega (arith, p, q))
    by (inl p) (inr (q, v)) = absurd (omega (arith, p, q))
    by (inr (p, u)) (inl q) = absurd (omega (arith, p, q))
    by (inr (p, u)) (inr (q, v)) =
        let same : a.number ≡ b.number = omega (arith, u, v) in
        λ i. record { asker = q i; number = same i }

-- ---- one more

all_put : (P : ByAsker → Type 0) (a : ByAsker) (l : List ByAsker) → P a → AllByRecursion P l → AllByRecursion P (put a l)
all_put P a [] h all = (h, tt)
all_put P a (b ∷ l) h all = by (is_before b a) (all_put P a l h all.1)
  where
    by : (c : Bool) → AllByRecursion P (put a l) → AllByRecursion P (cond c (b ∷ put a l) (a ∷ b ∷ l))
    by true later = (all.0, later)
    by false later = (h, all)

all_not_before : (b a : ByAsker) (l : List ByAsker) → is_before b a ≡ false → AllByRecursion (λ (x : ByAsker). is_before x b ≡ false) l
    → AllByRecursion (λ (x : ByAsker). is_before x a ≡ false) l
all_not_before b a [] n all = tt
all_not_before b a (x ∷ l) n all = (not_before_if x b a all.0 n, all_not_before b a l n all.1)

pub in_order_put : (a : ByAsker) (l : List ByAsker) → InOrder l → InOrder (put a l)
in_order_put a [] o = (tt, tt)
in_order_put a (b ∷ l) o = by (is_before b a) refl (in_order_put a l o.1)
  where
    by : (c : Bool) → is_before b a ≡ c → InOrder (put a l) → InOrder (cond c (b ∷ put a l) (a ∷ b ∷ l))
    by true is later = (all_put (λ (x : ByAsker). is_before x b ≡ false) a l (asym b a is) o.0, later)
    by false is later = ((is, all_not_before b a l is o.0), o)

pub in_order : (test : Forwarded → Bool) (es : List Forwarded) → InOrder (listed test es)
in_order test [] = tt
in_order test (e ∷ es) = by (test e) (in_order test es)
  where
    by : (c : Bool) → InOrder (listed test es) → InOrder (cond c (put (by_asker e) (listed test es)) (listed test es))
    by true later = in_order_put (by_asker e) (listed test es) later
    by false later = later

-- two are put in either order
put_put : (a b : ByAsker) (l : List ByAsker) → put a (put b l) ≡ put b (put a l)
put_put a b [] = by (is_before b a) (is_before a b) refl refl
  where
    by : (p q : Bool) → is_before b a ≡ p → is_before a b ≡ q → cond p (b ∷ a ∷ []) (a ∷ b ∷ []) ≡ cond q (a ∷ b ∷ []) (b ∷ a ∷ [])
    by true true x y = absurd (let clash = asym b a x in cc)
    by true false x y = refl
    by false true x y = refl
    by false false x y = let same = both_not a b y x in λ i. same i ∷ sym same i ∷ []
put_put a b (c ∷ l) = by (is_before c a) (is_before c b) refl refl (put_put a b l)
  where
    ends : (p q : Bool) → is_before b a ≡ p → is_before a b ≡ q → is_before c a ≡ false → is_before c b ≡ false
        → cond p (b ∷ put a (c ∷ l)) (a ∷ b ∷ c ∷ l) ≡ cond q (a ∷ put b (c ∷ l)) (b ∷ a ∷ c ∷ l)
    ends true true x y na nb = absurd (let clash = asym b a x in cc)
    ends true false x y na nb = rw na refl
    ends false true x y na nb = rw nb refl
    ends false false x y na nb = let same = both_not a b y x in λ i. same i ∷ sym same i ∷ c ∷ l

    by : (p q : Bool) → is_before c a ≡ p → is_before c b ≡ q → put a (put b l) ≡ put b (put a l)
        → put a (cond q (c ∷ put b l) (b ∷ c ∷ l)) ≡ put b (cond p (c ∷ put a l) (a ∷ c ∷ l))
    by true true x y later = rw (x, y) (ap (λ (k : List ByAsker). c ∷ k) later)
    by true false x y later = rw (before_if c b a y x, y) (rw x refl)
    by false true x y later = rw (before_if c a b x y, x) (rw y refl)
    by false false x y later = ends (is_before b a) (is_before a b) refl refl x y

-- ---- one fewer

before_self : (a : ByAsker) → is_before a a ≡ false
before_self a = is_not a a (inr (refl, omega arith))

same_self : (a : ByAsker) → is_same a a ≡ true
same_self a = rw (eq-eqb a.asker a.asker refl) (eq-eqb a.number a.number refl)

pub without_put : (a : ByAsker) (l : List ByAsker) → without a (put a l) ≡ l
without_put a [] = rw (before_self a) (rw (same_self a) refl)
without_put a (b ∷ l) = by (is_before b a) refl (without_put a l)
  where
    by : (c : Bool) → is_before b a ≡ c → without a (put a l) ≡ l → without a (cond c (b ∷ put a l) (a ∷ b ∷ l)) ≡ b ∷ l
    by true is later = rw is (ap (λ (k : List ByAsker). b ∷ k) later)
    by false is later = rw (before_self a) (rw (same_self a) refl)

abbrev IsAbsent : ByAsker → List ByAsker → Type 0
IsAbsent a l = AllByRecursion (λ (b : ByAsker). is_same b a ≡ false) l

without_absent : (a : ByAsker) (l : List ByAsker) → IsAbsent a l → without a l ≡ l
without_absent a [] h = refl
without_absent a (b ∷ l) h = by (is_before b a) (without_absent a l h.1)
  where
    by : (c : Bool) → without a l ≡ l → cond c (b ∷ without a l) (cond (is_same b a) l (b ∷ l)) ≡ b ∷ l
    by true later = ap (λ (k : List ByAsker). b ∷ k) later
    by false later = rw h.0 refl

-- ---- how many there are

pub length_put : (a : ByAsker) (l : List ByAsker) → length (put a l) ≡ suc (length l)
length_put a [] = refl
length_put a (b ∷ l) = by (is_before b a) (length_put a l)
  where
    by : (c : Bool) → length (put a l) ≡ suc (length l) → length (cond c (b ∷ put a l) (a ∷ b ∷ l)) ≡ suc (suc (length l))
    by true later = ap suc later
    by false later = refl

pub fewer_listed : (test : Forwarded → Bool) (es : List Forwarded) → length (listed test es) ≤ length es
fewer_listed test [] = omega arith
fewer_listed test (e ∷ es) = by (test e) (fewer_listed test es)
  where
    by : (c : Bool) → length (listed test es) ≤ length es → length (cond c (put (by_asker e) (listed test es)) (listed test es)) ≤ suc (length es)
    by true less = let n = length_put (by_asker e) (listed test es) in omega (arith, n, less)
    by false less = omega (arith, less)

pub all_listed : (test : Forwarded → Bool) → ((e : Forwarded) → test e ≡ true) → (es : List Forwarded) → length (listed test es) ≡ length es
all_listed test all [] = refl
all_listed test all (e ∷ es) = rw (all e) (length_put (by_asker e) (listed test es) ∙ ap suc (all_listed test all es))

-- ---- what a call makes of the list

pub listed_more : (test : Forwarded → Bool) (es : List Forwarded) (e : Forwarded)
    → listed test (es ++ e ∷ []) ≡ cond (test e) (put (by_asker e) (listed test es)) (listed test es)
listed_more test [] e = refl
listed_more test (f ∷ es) e = by (test f) (test e) (listed_more test es e)
  where
    by : (p q : Bool) → listed test (es ++ e ∷ []) ≡ cond q (put (by_asker e) (listed test es)) (listed test es)
        → cond p (put (by_asker f) (listed test (es ++ e ∷ []))) (listed test (es ++ e ∷ []))
        ≡ cond q (put (by_asker e) (cond p (put (by_asker f) (listed test es)) (listed test es))) (cond p (put (by_asker f) (listed test es)) (listed test es))
    by true true h = ap (put (by_asker f)) h ∙ put_put (by_asker f) (by_asker e) (listed test es)
    by true false h = ap (put (by_asker f)) h
    by false true h = h
    by false false h = h

module _ (p : Forwarded → Bool) (f : Forwarded → Forwarded) (keeps : (e : Forwarded) → by_asker (f e) ≡ by_asker e) (test : Forwarded → Bool) where
  -- the test answers as before
  pub listed_same : ((e : Forwarded) → p e ≡ true → test (f e) ≡ test e) → (es : List Forwarded) → listed test (at_first p f es) ≡ listed test es
  listed_same same [] = refl
  listed_same same (e ∷ es) = by (p e) refl (listed_same same es)
    where
      by : (c : Bool) → p e ≡ c → listed test (at_first p f es) ≡ listed test es
          → listed test (cond c (f e ∷ es) (e ∷ at_first p f es)) ≡ cond (test e) (put (by_asker e) (listed test es)) (listed test es)
      by true is later = (λ i. cond (same e is i) (put (keeps e i) (listed test es)) (listed test es))
      by false is later = ap (λ (l : List ByAsker). cond (test e) (put (by_asker e) l) l) later

  -- the one that was found passes the test only now
  pub listed_anew : ((e : Forwarded) → p e ≡ true → test e ≡ false) → ((e : Forwarded) → test (f e) ≡ true) → (es : List Forwarded) (r : Forwarded) → find p es ≡ Some r
      → listed test (at_first p f es) ≡ put (by_asker r) (listed test es)
  listed_anew old new [] r is = absurd cc
  listed_anew old new (e ∷ es) r is = by (p e) refl is (λ found. listed_anew old new es r found)
    where
      late : (t : Bool) → listed test (at_first p f es) ≡ put (by_asker r) (listed test es)
          → cond t (put (by_asker e) (listed test (at_first p f es))) (listed test (at_first p f es)) ≡ put (by_asker r) (cond t (put (by_asker e) (listed test es)) (listed test es))
      late true h = ap (put (by_asker e)) h ∙ put_put (by_asker e) (by_asker r) (listed test es)
      late false h = h

      by : (c : Bool) → p e ≡ c → cond c (Some e) (find p es) ≡ Some r
          → (find p es ≡ Some r → listed test (at_first p f es) ≡ put (by_asker r) (listed test es))
          → listed test (cond c (f e ∷ es) (e ∷ at_first p f es)) ≡ put (by_asker r) (cond (test e) (put (by_asker e) (listed test es)) (listed test es))
      by true so found later =
          let same : e ≡ r = cc in
          rw (new e) (rw (old e so) ((λ i. put (keeps e i) (listed test es)) ∙ ap (λ (x : Forwarded). put (by_asker x) (listed test es)) same))
      by false so found later = late (test e) (later found)

-- all pass then
pub listed_all : (test every : Forwarded → Bool) (f : Forwarded → Forwarded) → ((e : Forwarded) → by_asker (f e) ≡ by_asker e) → ((e : Forwarded) → test (f e) ≡ true)
    → ((e : Forwarded) → every e ≡ true) → (es : List Forwarded) → listed test (map f es) ≡ listed every es
listed_all test every f keeps passes all [] = refl
listed_all test every f keeps passes all (e ∷ es) =
    rw (passes e) (rw (all e) (λ i. put (keeps e i) (listed_all test every f keeps passes all es i)))

-- ---- one that is taken out

abbrev AreFrom : ℕ → List ByAsker → Type 0
AreFrom low l = AllByRecursion (λ (b : ByAsker). low ≤ b.number) l

from_lower : (low from : ℕ) (l : List ByAsker) → low ≤ from → AreFrom from l → AreFrom low l
from_lower low from [] h a = tt
from_lower low from (b ∷ l) h a = (omega (arith, h, a.0), from_lower low from l h a.1)

pub listed_from : (test : Forwarded → Bool) (low high : ℕ) (es : List Forwarded) → AscendIn low high es → AreFrom low (listed test es)
listed_from test low high [] a = tt
listed_from test low high (e ∷ es) a = by (test e) (from_lower low (suc e.number) (listed test es) (omega (arith, a.0)) (listed_from test (suc e.number) high es a.1))
  where
    by : (c : Bool) → AreFrom low (listed test es) → AreFrom low (cond c (put (by_asker e) (listed test es)) (listed test es))
    by true later = all_put (λ (b : ByAsker). low ≤ b.number) (by_asker e) (listed test es) a.0 later
    by false later = later

other_number : (b a : ByAsker) → b.number ≢ a.number → is_same b a ≡ false
other_number b a other = by (b.asker == a.asker)
  where
    by : (c : Bool) → (c && (b.number == a.number)) ≡ false
    by true = ne_eqb b.number a.number other
    by false = refl

absent_above : (low : ℕ) (a : ByAsker) (l : List ByAsker) → a.number < low → AreFrom low l → IsAbsent a l
absent_above low a [] less f = tt
absent_above low a (b ∷ l) less f = (other_number b a (λ e. absurd (omega (arith, less, f.0, e))), absent_above low a l less f.1)

found_from : (p : Forwarded → Bool) (low high : ℕ) (es : List Forwarded) (r : Forwarded) → AscendIn low high es → find p es ≡ Some r → low ≤ r.number
found_from p low high [] r a is = absurd cc
found_from p low high (e ∷ es) r a is = by (p e) is (found_from p (suc e.number) high es r a.1)
  where
    by : (c : Bool) → cond c (Some e) (find p es) ≡ Some r → (find p es ≡ Some r → suc e.number ≤ r.number) → low ≤ r.number
    by true here later = (let same : e ≡ r = cc in subst (λ (x : Forwarded). low ≤ x.number) same a.0)
    by false here later = let more = later here in omega (arith, more, a.0)

module _ (p test : Forwarded → Bool) where
  absent_if : (low high : ℕ) (es : List Forwarded) (r : Forwarded) → AscendIn low high es → find p es ≡ Some r → test r ≡ false → IsAbsent (by_asker r) (listed test es)
  absent_if low high [] r a is fails = tt
  absent_if low high (e ∷ es) r a is fails = by (p e) (test e) refl is (λ here. absent_if (suc e.number) high es r a.1 here fails)
    where
      after : AreFrom (suc e.number) (listed test es)
      after = listed_from test (suc e.number) high es a.1

      by : (c t : Bool) → test e ≡ t → cond c (Some e) (find p es) ≡ Some r → (find p es ≡ Some r → IsAbsent (by_asker r) (listed test es))
          → IsAbsent (by_asker r) (cond t (put (by_asker e) (listed test es)) (listed test es))
      by true true so here later = absurd (let same : e ≡ r = cc in let clash = sym so ∙ ap test same ∙ fails in cc)
      by true false so here later =
          let same : e ≡ r = cc in
          subst (λ (x : Forwarded). IsAbsent (by_asker x) (listed test es)) same (absent_above (suc e.number) (by_asker e) (listed test es) (omega arith) after)
      by false true so here later =
          let more = found_from p (suc e.number) high es r a.1 here in
          all_put (λ (b : ByAsker). is_same b (by_asker r) ≡ false) (by_asker e) (listed test es)
          (other_number (by_asker e) (by_asker r) (λ same. absurd (omega (arith, more, same)))) (later here)
      by false false so here later = later here

  left_out : (es : List Forwarded) (r : Forwarded) → find p es ≡ Some r → test r ≡ false → listed test (without_first p es) ≡ listed test es
  left_out [] r is fails = absurd cc
  left_out (e ∷ es) r is fails = by (p e) is (λ here. left_out es r here fails)
    where
      by : (c : Bool) → cond c (Some e) (find p es) ≡ Some r → (find p es ≡ Some r → listed test (without_first p es) ≡ listed test es)
          → listed test (cond c es (e ∷ without_first p es)) ≡ cond (test e) (put (by_asker e) (listed test es)) (listed test es)
      by true here later = let same : e ≡ r = cc in rw (ap test same ∙ fails) refl
      by false here later = ap (λ (l : List ByAsker). cond (test e) (put (by_asker e) l) l) (later here)

  taken_out : (es : List Forwarded) (r : Forwarded) → find p es ≡ Some r → test r ≡ true → listed test es ≡ put (by_asker r) (listed test (without_first p es))
  taken_out [] r is passes = absurd cc
  taken_out (e ∷ es) r is passes = by (p e) is (λ here. taken_out es r here passes)
    where
      late : (t : Bool) → listed test es ≡ put (by_asker r) (listed test (without_first p es))
          → cond t (put (by_asker e) (listed test es)) (listed test es)
          ≡ put (by_asker r) (cond t (put (by_asker e) (listed test (without_first p es))) (listed test (without_first p es)))
      late true h = ap (put (by_asker e)) h ∙ put_put (by_asker e) (by_asker r) (listed test (without_first p es))
      late false h = h

      by : (c : Bool) → cond c (Some e) (find p es) ≡ Some r → (find p es ≡ Some r → listed test es ≡ put (by_asker r) (listed test (without_first p es)))
          → cond (test e) (put (by_asker e) (listed test es)) (listed test es) ≡ put (by_asker r) (listed test (cond c es (e ∷ without_first p es)))
      by true here later =
          let same : e ≡ r = cc in
          rw (ap test same ∙ passes) (ap (λ (x : Forwarded). put (by_asker x) (listed test es)) same)
      by false here later = late (test e) (later here)

  pub listed_without : (low high : ℕ) (es : List Forwarded) (r : Forwarded) → AscendIn low high es → find p es ≡ Some r
      → listed test (without_first p es) ≡ without (by_asker r) (listed test es)
  listed_without low high es r a is = by (test r) refl
    where
      by : (t : Bool) → test r ≡ t → listed test (without_first p es) ≡ without (by_asker r) (listed test es)
      by true so = sym (without_put (by_asker r) (listed test (without_first p es))) ∙ ap (without (by_asker r)) (sym (taken_out es r is so))
      by false so = left_out es r is so ∙ sym (without_absent (by_asker r) (listed test es) (absent_if low high es r a is so))

-- ---- the first of an asker's

first_own : (a : ByAsker) (session : ℕ) (l : List ByAsker) → (a.asker == session) ≡ true → AreFrom a.number l → first_number session (put a l) ≡ Some a.number
first_own a session [] own f = rw own refl
first_own a session (b ∷ l) own f = by (is_before b a) (b.asker == session) refl refl (first_own a session l own f.1)
  where
    apart : (b.asker == session) ≡ true → Before b a → ⊥
    apart so (inl less) = let x = eqb-true b.asker session so in let y = eqb-true a.asker session own in absurd (omega (arith, less, x, y))
    apart so (inr (same, less)) = absurd (omega (arith, less, f.0))

    by : (c o : Bool) → is_before b a ≡ c → (b.asker == session) ≡ o → first_number session (put a l) ≡ Some a.number
        → first_number session (cond c (b ∷ put a l) (a ∷ b ∷ l)) ≡ Some a.number
    by true true is so later = absurd (apart so (before b a is))
    by true false is so later = rw so later
    by false o is so later = rw own refl

first_other : (a : ByAsker) (session : ℕ) (l : List ByAsker) → (a.asker == session) ≡ false → first_number session (put a l) ≡ first_number session l
first_other a session [] other = rw other refl
first_other a session (b ∷ l) other = by (is_before b a) (first_other a session l other)
  where
    by : (c : Bool) → first_number session (put a l) ≡ first_number session l
        → first_number session (cond c (b ∷ put a l) (a ∷ b ∷ l)) ≡ cond (b.asker == session) (Some b.number) (first_number session l)
    by true later = ap (λ (o : Option ℕ). cond (b.asker == session) (Some b.number) o) later
    by false later = rw other refl

abbrev pub number_of : Forwarded → ℕ
number_of e = e.number

-- it is that of the first request of this session that passes the test
pub first_listed : (session : ℕ) (test p : Forwarded → Bool) → ((e : Forwarded) → p e ≡ ((e.asker == session) && test e)) → (low high : ℕ) (es : List Forwarded) → AscendIn low high es
    → first_number session (listed test es) ≡ option_map number_of (find p es)
first_listed session test p is low high [] a = refl
first_listed session test p is low high (e ∷ es) a =
    by (e.asker == session) (test e) refl (first_listed session test p is (suc e.number) high es a.1)
    ∙ ap (λ (b : Bool). option_map number_of (cond b (Some e) (find p es))) (sym (is e))
  where
    by : (o t : Bool) → (e.asker == session) ≡ o → first_number session (listed test es) ≡ option_map number_of (find p es)
        → first_number session (cond t (put (by_asker e) (listed test es)) (listed test es)) ≡ option_map number_of (cond (o && t) (Some e) (find p es))
    by true true own later =
        first_own (by_asker e) session (listed test es) own
        (from_lower e.number (suc e.number) (listed test es) (omega arith) (listed_from test (suc e.number) high es a.1))
    by false true own later = first_other (by_asker e) session (listed test es) own ∙ later
    by true false own later = later
    by false false own later = later

-- ---- places

pub put_at_place : (a : ByAsker) (l : List ByAsker) → insert l (place a l) a ≡ put a l
put_at_place a [] = refl
put_at_place a (b ∷ l) = by (is_before b a) refl (put_at_place a l)
  where
    by : (c : Bool) → is_before b a ≡ c → insert l (place a l) a ≡ put a l → insert (b ∷ l) (place a (b ∷ l)) a ≡ cond c (b ∷ put a l) (a ∷ b ∷ l)
    by true is later = rw is (rw one-add (ap (λ (k : List ByAsker). b ∷ k) later))
    by false is later = rw is refl

pub place_within : (a : ByAsker) (l : List ByAsker) → place a l ≤ length l
place_within a [] = omega arith
place_within a (b ∷ l) = by (is_before b a) refl (place_within a l)
  where
    by : (c : Bool) → is_before b a ≡ c → place a l ≤ length l → place a (b ∷ l) ≤ suc (length l)
    by true is more = rw is (omega (arith, more))
    by false is more = rw is (omega arith)

-- it is taken out where it stands, and else nothing
pub without_at : (a : ByAsker) (l : List ByAsker) → is_this a (slice_get l (place a l)) ≡ true → remove l (place a l) ≡ without a l
without_at a [] h = absurd cc
without_at a (b ∷ l) h = by (is_before b a) refl h (λ there. without_at a l there)
  where
    by : (c : Bool) → is_before b a ≡ c → is_this a (slice_get (b ∷ l) (place a (b ∷ l))) ≡ true
        → (is_this a (slice_get l (place a l)) ≡ true → remove l (place a l) ≡ without a l) → remove (b ∷ l) (place a (b ∷ l)) ≡ without a (b ∷ l)
    by true is h later =
        let there : is_this a (slice_get l (place a l)) ≡ true = rw (is, one-add) at h in
        rw is (rw one-add (ap (λ (k : List ByAsker). b ∷ k) (later there)))
    by false is h later = let this : is_same b a ≡ true = rw is at h in rw is (rw this refl)

pub without_none : (a : ByAsker) (l : List ByAsker) → is_this a (slice_get l (place a l)) ≡ false → without a l ≡ l
without_none a [] h = refl
without_none a (b ∷ l) h = by (is_before b a) refl h (λ there. without_none a l there)
  where
    by : (c : Bool) → is_before b a ≡ c → is_this a (slice_get (b ∷ l) (place a (b ∷ l))) ≡ false
        → (is_this a (slice_get l (place a l)) ≡ false → without a l ≡ l) → without a (b ∷ l) ≡ b ∷ l
    by true is h later =
        let there : is_this a (slice_get l (place a l)) ≡ false = rw (is, one-add) at h in
        rw is (ap (λ (k : List ByAsker). b ∷ k) (later there))
    by false is h later = let this : is_same b a ≡ false = rw is at h in rw is (rw this refl)

-- the asker of the one that was found, if one was
abbrev pub own_number : ℕ → Option ByAsker → Option ℕ
own_number session None = None
own_number session (Some a) = cond (a.asker == session) (Some a.number) None

abbrev pub least : ℕ → ByAsker
least session = record { asker = session; number = 0 }

none_after : (session : ℕ) (a : ByAsker) (l : List ByAsker) → session < a.asker → AllByRecursion (λ (b : ByAsker). is_before b a ≡ false) l → first_number session l ≡ None
none_after session a [] less all = refl
none_after session a (b ∷ l) less all = rw (ne_eqb b.asker session (apart (not_before b a all.0))) (none_after session a l less all.1)
  where
    apart : ((a.asker < b.asker) ⊎ ((a.asker ≡ b.asker) × (a.number ≤ b.number))) → b.asker ≢ session
    apart (inl more) same = absurd (omega (arith, less, more, same))
    apart (inr (e, more)) same = absurd (omega (arith, less, e, same))

pub first_at : (session : ℕ) (l : List ByAsker) → InOrder l → first_number session l ≡ own_number session (slice_get l (place (least session) l))
first_at session [] o = refl
first_at session (a ∷ l) o = by (is_before a (least session)) (a.asker == session) refl refl (first_at session l o.1)
  where
    before_least : (a.asker == session) ≡ true → Before a (least session) → ⊥
    before_least so (inl less) = let x = eqb-true a.asker session so in absurd (omega (arith, less, x))
    before_least so (inr (same, less)) = absurd (omega (arith, less))

    after_least : (a.asker == session) ≡ false → ((session < a.asker) ⊎ ((session ≡ a.asker) × (0 ≤ a.number))) → session < a.asker
    after_least so (inl more) = more
    after_least so (inr (same, more)) = absurd (eqb-false a.asker session so (sym same))

    by : (c own : Bool) → is_before a (least session) ≡ c → (a.asker == session) ≡ own → first_number session l ≡ own_number session (slice_get l (place (least session) l))
        → cond own (Some a.number) (first_number session l) ≡ own_number session (slice_get (a ∷ l) (place (least session) (a ∷ l)))
    by true true is so later = absurd (before_least so (before a (least session) is))
    by true false is so later = rw is (rw one-add later)
    by false true is so later = rw is (rw so refl)
    by false false is so later = rw is (rw so (none_after session a l (after_least so (not_before a (least session) is)) o.0))

-- ---- what a binary search may ask

none_at : (a : ByAsker) (k : List ByAsker) (n : ℕ) (d : ByAsker) → AllByRecursion (λ (b : ByAsker). is_before b a ≡ false) k → n < length k → is_before (get_or k n d) a ≡ false
none_at a [] n d all h = absurd (omega arith)
none_at a (b ∷ k) zero d all h = all.0
none_at a (b ∷ k) (suc n) d all h = none_at a k n d all.1 (omega (arith, h))

no_earlier : (l : List ByAsker) (i j : ℕ) (d : ByAsker) → InOrder l → i < j → j < length l → is_before (get_or l j d) (get_or l i d) ≡ false
no_earlier [] i j d o less within = absurd (omega arith)
no_earlier (a ∷ l) i zero d o less within = absurd (omega arith)
no_earlier (a ∷ l) zero (suc j) d o less within = none_at a l j d o.0 (omega (arith, within))
no_earlier (a ∷ l) (suc i) (suc j) d o less within = no_earlier l i j d o.1 (omega arith) (omega arith)

pub partitioned : (a : ByAsker) (l : List ByAsker) → InOrder l → IsPartitionedBy (λ (b : ByAsker). is_before b a) l
partitioned a l o i j d le within h = by (cases_order i j)
  where
    by : ((i ≡ j) ⊎ ((i < j) ⊎ (j < i))) → is_before (get_or l i d) a ≡ true
    by (inl same) = ap (λ (k : ℕ). is_before (get_or l k d) a) same ∙ h
    by (inr (inl less)) = before_if (get_or l j d) (get_or l i d) a (no_earlier l i j d o less within) h
    by (inr (inr more)) = absurd (omega (arith, more, le))

-- where a search ended
pub place_is : (a : ByAsker) (l : List ByAsker) (n : ℕ) → n ≤ length l → ((k : ℕ) (d : ByAsker) → k < n → is_before (get_or l k d) a ≡ true)
    → ((k : ℕ) (d : ByAsker) → n ≤ k → k < length l → is_before (get_or l k d) a ≡ false) → n ≡ place a l
place_is a [] n within lower upper = omega (arith, within)
place_is a (b ∷ l) zero within lower upper =
    let no : is_before b a ≡ false = upper 0 b (omega arith) (omega arith) in
    rw no refl
place_is a (b ∷ l) (suc n) within lower upper =
    let yes : is_before b a ≡ true = lower 0 b (omega arith) in
    rw yes (rw one-add (ap suc (place_is a l n (omega (arith, within)) (λ k d h. lower (suc k) d (omega (arith, h))) (λ k d h m. upper (suc k) d (omega (arith, h)) (omega (arith, m))))))
