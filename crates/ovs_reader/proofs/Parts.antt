-- What is told in parts.
use Rattle.std.proofs.Common.{◌≡◌, ◌≤◌, ◌<◌, ◌+◌, ⊎_elim, ℕ, zero, suc, max, Bool, not, cond, List, [], ◌∷◌, ◌++◌, length, get_or, take, drop, map, refl, sym, ◌∙◌, ap, subst, append_assoc, arith, add-one, length-append}
use Rattle.std.specs.Prelude.{nat_le, flat_map, if◌then◌else◌, Option, Some, None}
use Rattle.std.specs.List.{AllByRecursion, enumerate_from, cons_option, range_with_len}
use Rattle.std.proofs.Math.Nat.{eq-or-lt_of_le}
use Rattle.std.proofs.lemmas.Bool.{le-leb, lt-leb, leb-true, leb-false}
use Rattle.std.proofs.lemmas.Bool.Decides.{nat_tests}
use Rattle.std.proofs.lemmas.List.{append-nil, get_or_default, length-take-le, take_all, take_more, take-append-drop}
use Rattle.std.proofs.lemmas.List.Concat.{flat_map-append}
use Rattle.std.proofs.lemmas.List.FromFn.{length-range_with_len, get_or-range_with_len}
use Rattle.std.proofs.lemmas.List.Sums.{prefix_len-le-length, position_or_len_is, fails_before_first, passes_at_first}
use mathlib.Core.List.{IsPrefix}
use Rattle.ovs_links.specs.Steps.{FoldedValue}
use Rattle.ovs_links.specs.declared.step.Step.{Step}
use Rattle.ovs_query.specs.declared.monitor.Notation.{Notation}
use Rattle.ovs_query.specs.declared.monitor.Notation.TheVariants.{Update, Update2, Update3}
use Rattle.ovs_wire.specs.declared.message.Message.{Message}
use Rattle.ovs_reader.specs.Session.{SessionValue}
use Rattle.ovs_reader.specs.Turns.{shown}
use Rattle.ovs_reader.specs.Telling.{notice_in, notice_of, notices, told, reached, told_some, moved_to, moved_past, after_pump, after_some, IsToldReadably, AreToldReadably}
use Rattle.ovs_reader.specs.declared.subscription.Subscription.{Subscription}
use Rattle.ovs_reader.proofs.Fitting.{all_append}
use Rattle.ovs_reader.proofs.Notices.{none_of, unread}

-- ---- steps with their numbers

numbered_append : (k : ℕ) (xs ys : List Step) → enumerate_from k (xs ++ ys) ≡ enumerate_from k xs ++ enumerate_from (k + length xs) ys
numbered_append k [] ys = ap (λ (j : ℕ). enumerate_from j ys) (omega arith)
numbered_append k (x ∷ xs) ys =
    ap (λ (l : List (ℕ × Step)). (k, x) ∷ l) (numbered_append (k + 1) xs ys ∙ ap (λ (j : ℕ). enumerate_from (k + 1) xs ++ enumerate_from j ys) (omega arith))

numbered_more : (steps : List Step) (i : ℕ) (s : Step) → i < length steps → s ≡ get_or steps i s
    → enumerate_from 0 (take (i + 1) steps) ≡ enumerate_from 0 (take i steps) ++ (i, s) ∷ []
numbered_more steps i s less is =
    let count : 0 + length (take i steps) ≡ i = omega (arith, length-take-le i steps (omega arith)) in
    ap (enumerate_from 0) (take_more steps i s less) ∙ numbered_append 0 (take i steps) (get_or steps i s ∷ [])
    ∙ ap (λ (j : ℕ). enumerate_from 0 (take i steps) ++ (j, get_or steps i s) ∷ []) count
    ∙ ap (λ (t : Step). enumerate_from 0 (take i steps) ++ (i, t) ∷ []) (sym is)

-- what the monitors tell of steps that stand behind so many others
abbrev told_from : List Subscription → ℕ → List Step → List Message
told_from monitors k steps = flat_map (notices monitors) (enumerate_from k steps)

told_append : (monitors : List Subscription) (xs ys : List Step) → told monitors (xs ++ ys) ≡ told monitors xs ++ told_from monitors (length xs) ys
told_append monitors xs ys =
    ap (flat_map (notices monitors)) (numbered_append 0 xs ys) ∙ flat_map-append (notices monitors) (enumerate_from 0 xs) (enumerate_from (0 + length xs) ys)
    ∙ ap (λ (j : ℕ). told monitors xs ++ told_from monitors j ys) (omega arith)

pub told_more : (monitors : List Subscription) (steps : List Step) (i : ℕ) (s : Step) → i < length steps → s ≡ get_or steps i s
    → told monitors (take (i + 1) steps) ≡ told monitors (take i steps) ++ notices monitors (i, s)
told_more monitors steps i s less is =
    ap (flat_map (notices monitors)) (numbered_more steps i s less is)
    ∙ flat_map-append (notices monitors) (enumerate_from 0 (take i steps)) ((i, s) ∷ [])
    ∙ ap (λ (l : List Message). told monitors (take i steps) ++ l) (append-nil (notices monitors (i, s)))

-- what all monitors were told gives nothing
none_from : (monitors : List Subscription) (least k : ℕ) (steps : List Step) → AllByRecursion (λ m. least ≤ m.position) monitors → k + length steps ≤ least
    → told_from monitors k steps ≡ []
none_from monitors least k [] all le = refl
none_from monitors least k (s ∷ ss) all le =
    ap (λ (ms : List Message). ms ++ told_from monitors (k + 1) ss) (none_of monitors least k s all (omega (arith, le)))
    ∙ none_from monitors least (k + 1) ss all (omega (arith, le))

pub none_before : (monitors : List Subscription) (least k : ℕ) (steps : List Step) → AllByRecursion (λ m. least ≤ m.position) monitors → k ≤ least → least ≤ length steps
    → told monitors (take k steps) ≡ []
none_before monitors least k steps all le within = none_from monitors least 0 (take k steps) all (omega (arith, length-take-le k steps (omega arith)))

-- nor is anything of it to be read
unread_from : (monitors : List Subscription) (least k : ℕ) (steps : List Step) → AllByRecursion (λ m. least ≤ m.position) monitors → k + length steps ≤ least
    → AllByRecursion (λ s. AllByRecursion (IsToldReadably s) monitors) (enumerate_from k steps)
unread_from monitors least k [] all le = tt
unread_from monitors least k (s ∷ ss) all le =
    (unread monitors least k s all (omega (arith, le)), unread_from monitors least (k + 1) ss all (omega (arith, le)))

pub unread_before : (monitors : List Subscription) (least : ℕ) (steps : List Step) → AllByRecursion (λ m. least ≤ m.position) monitors → least ≤ length steps
    → AreToldReadably monitors (take least steps)
unread_before monitors least steps all within = unread_from monitors least 0 (take least steps) all (omega (arith, length-take-le least steps within))

pub read_more : (monitors : List Subscription) (steps : List Step) (i : ℕ) (s : Step) → i < length steps → s ≡ get_or steps i s
    → AreToldReadably monitors (take i steps) → AllByRecursion (IsToldReadably (i, s)) monitors → AreToldReadably monitors (take (i + 1) steps)
read_more monitors steps i s less is before here =
    subst (AllByRecursion (λ (t : ℕ × Step). AllByRecursion (IsToldReadably t) monitors)) (sym (numbered_more steps i s less is))
    (all_append (λ (t : ℕ × Step). AllByRecursion (IsToldReadably t) monitors) (enumerate_from 0 (take i steps)) ((i, s) ∷ []) before (here, tt))

-- ---- how many steps are told

pub below_more : (F : ℕ → ℕ) (most i : ℕ) → ((k : ℕ) → k < i → F k < most) → F i < most → (k : ℕ) → k < i + 1 → F k < most
below_more F most i before here k less = ⊎_elim
    (λ (same : k ≡ i). subst (λ (j : ℕ). F j < most) (sym same) here)
    (λ (lower : k < i). before k lower)
    (eq-or-lt_of_le (omega (arith, less)))

module _ (most : ℕ) (monitors : List Subscription) (steps : List Step) where
  -- how many notifications there are of the first steps
  abbrev count : ℕ → ℕ
  count k = length (told monitors (take k steps))

  abbrev test : ℕ → Bool
  test k = nat_le most (count k)

  abbrev places : List ℕ
  places = range_with_len 0 (length steps)

  places_len : length places ≡ length steps
  places_len = length-range_with_len 0 (length steps)

  at_place : (k : ℕ) → k < length steps → get_or places k 0 ≡ k
  at_place k less = let e : 0 + k ≡ k = omega arith in get_or-range_with_len 0 (length steps) k 0 less ∙ e

  pub reached_is : (i : ℕ) → i ≤ length steps → ((k : ℕ) → k < i → length (told monitors (take k steps)) < most)
      → (i < length steps → most ≤ length (told monitors (take i steps))) → i ≡ reached most monitors steps
  reached_is i within before here = sym (position_or_len_is test places i 0 (omega (arith, within, places_len))
      (λ k less. ap test (at_place k (omega (arith, less, within))) ∙ lt-leb most (count k) (before k less))
      (λ less. let inside : i < length steps = omega (arith, less, places_len) in ap test (at_place i inside) ∙ le-leb most (count i) (here inside)))

  pub reached_within : reached most monitors steps ≤ length steps
  reached_within = omega (arith, prefix_len-le-length (λ k. not (test k)) places, places_len)

  before_reached : (k : ℕ) → k < reached most monitors steps → count k < most
  before_reached k less =
      leb-false most (count k) (sym (ap test (at_place k (omega (arith, less, reached_within)))) ∙ fails_before_first test places k 0 less)

  at_reached : reached most monitors steps < length steps → most ≤ length (told_some most monitors steps)
  at_reached less = leb-true most (count (reached most monitors steps))
      (sym (ap test (at_place (reached most monitors steps) less)) ∙ passes_at_first test places 0 (omega (arith, less, places_len)))

  -- where fewer are told all are
  pub all_told : length (told_some most monitors steps) < most → reached most monitors steps ≡ length steps
  all_told few = ⊎_elim
      (λ (same : reached most monitors steps ≡ length steps). same)
      (λ (less : reached most monitors steps < length steps). absurd (omega (arith, at_reached less, few)))
      (eq-or-lt_of_le reached_within)

-- a step gives a notification to each monitor at most
few_notices : (monitors : List Subscription) (s : ℕ × Step) → length (notices monitors s) ≤ length monitors
few_notices [] s = omega arith
few_notices (m ∷ ms) s = by (if nat_le m.position s.0 then notice_of s.1 m else None) (few_notices ms s)
  where
    by : (o : Option Message) → length (notices ms s) ≤ length ms → length (cons_option o (notices ms s)) ≤ length (m ∷ ms)
    by None few = omega (arith, few)
    by (Some x) few = omega (arith, few)

bounded_at : (most : ℕ) (monitors : List Subscription) (steps : List Step) → Step → length (told_some most monitors steps) ≤ most + length monitors
bounded_at most monitors steps d = by (reached most monitors steps) (reached_within most monitors steps) (before_reached most monitors steps)
  where
    one : (k : ℕ) (s : Step) → k < length steps → s ≡ get_or steps k s → length (told monitors (take k steps)) < most
        → length (told monitors (take (k + 1) steps)) ≤ most + length monitors
    one k s less is few =
        omega (arith, few, few_notices monitors (k, s), length-append (told monitors (take k steps)) (notices monitors (k, s)), ap length (told_more monitors steps k s less is))

    by : (r : ℕ) → r ≤ length steps → ((k : ℕ) → k < r → length (told monitors (take k steps)) < most)
        → length (told monitors (take r steps)) ≤ most + length monitors
    by zero within few = omega arith
    by (suc k) within few =
        let inside : k < length steps = omega (arith, within) in
        rw (← add-one) (one k (get_or steps k d) inside (get_or_default steps k d (get_or steps k d) inside) (few k (omega arith)))

pub bounded : (most : ℕ) (monitors : List Subscription) (steps : List Step) → length (told_some most monitors steps) ≤ most + length monitors
bounded most monitors [] = omega arith
bounded most monitors (s ∷ ss) = bounded_at most monitors (s ∷ ss) s

-- ---- monitors that have been told so many

same_notice : (k : ℕ) (s : Step) (m : Subscription) (n : Notation) → notice_in n (moved_past k m) s ≡ notice_in n m s
same_notice k s m Update = refl
same_notice k s m Update2 = refl
same_notice k s m Update3 = refl

later_test : (p k j : ℕ) → k ≤ j → nat_le (max p k) j ≡ nat_le p j
later_test p k j le = grind (arith, nat_tests)

same_notices : (monitors : List Subscription) (k j : ℕ) (s : Step) → k ≤ j → notices (map (moved_past k) monitors) (j, s) ≡ notices monitors (j, s)
same_notices [] k j s le = refl
same_notices (m ∷ ms) k j s le =
    ap (λ b. cons_option (cond b (notice_of s (moved_past k m)) None) (notices (map (moved_past k) ms) (j, s))) (later_test m.position k j le)
    ∙ ap (λ o. cons_option (cond (nat_le m.position j) o None) (notices (map (moved_past k) ms) (j, s))) (same_notice k s m m.monitor.notation)
    ∙ ap (λ (ns : List Message). cons_option (cond (nat_le m.position j) (notice_of s m) None) ns) (same_notices ms k j s le)

same_from : (monitors : List Subscription) (k j : ℕ) (steps : List Step) → k ≤ j → told_from (map (moved_past k) monitors) j steps ≡ told_from monitors j steps
same_from monitors k j [] le = refl
same_from monitors k j (s ∷ ss) le =
    ap (λ (ms : List Message). ms ++ told_from (map (moved_past k) monitors) (j + 1) ss) (same_notices monitors k j s le)
    ∙ ap (λ (ms : List Message). notices monitors (j, s) ++ ms) (same_from monitors k (j + 1) ss (omega (arith, le)))

pub all_past : (monitors : List Subscription) (k : ℕ) → AllByRecursion (λ m. k ≤ m.position) (map (moved_past k) monitors)
all_past [] k = tt
all_past (m ∷ ms) k = (omega arith, all_past ms k)

-- what is told of the first steps, and then of all
split : (monitors : List Subscription) (front back : List Step)
    → told monitors (front ++ back) ≡ told monitors front ++ told (map (moved_past (length front)) monitors) (front ++ back)
split monitors front back =
    let k = length front in
    let moved = map (moved_past k) monitors in
    let rest : told moved (front ++ back) ≡ told_from monitors k back =
    told_append moved front back ∙ ap (λ (ms : List Message). ms ++ told_from moved k back) (none_from moved k 0 front (all_past monitors k) (omega arith))
    ∙ same_from monitors k k back (omega arith) in
    told_append monitors front back ∙ ap (λ (ms : List Message). told monitors front ++ ms) (sym rest)

pub goes_on : (most : ℕ) (monitors : List Subscription) (steps later : List Step) → IsPrefix steps later
    → told monitors later ≡ told_some most monitors steps ++ told (map (moved_past (reached most monitors steps)) monitors) later
goes_on most monitors steps later (more, whole) =
    let r = reached most monitors steps in
    let front = take r steps in
    let back = drop r steps ++ more in
    let is : front ++ back ≡ later = sym (append_assoc front (drop r steps) more) ∙ ap (λ (l : List Step). l ++ more) (take-append-drop r steps) ∙ whole in
    let count : length front ≡ r = length-take-le r steps (reached_within most monitors steps) in
    subst (λ (l : List Step). told monitors l ≡ told monitors front ++ told (map (moved_past r) monitors) l) is
    (subst (λ (k : ℕ). told monitors (front ++ back) ≡ told monitors front ++ told (map (moved_past k) monitors) (front ++ back)) count (split monitors front back))

-- ---- no bound

moved_all : (k : ℕ) (monitors : List Subscription) → AllByRecursion (λ m. m.position ≤ k) monitors → map (moved_past k) monitors ≡ map (moved_to k) monitors
moved_all k [] all = refl
moved_all k (m ∷ ms) all =
    let same : max m.position k ≡ k = omega (arith, all.0) in
    ap (λ (p : ℕ). record { id = m.id; monitor = m.monitor; position = p } ∷ map (moved_past k) ms) same
    ∙ ap (λ (l : List Subscription). moved_to k m ∷ l) (moved_all k ms all.1)

no_more : (monitors : List Subscription) (steps : List Step) (k : ℕ) → length (told monitors (take k steps)) ≤ length (told monitors steps)
no_more monitors steps k =
    omega (
      arith,
      length-append (told monitors (take k steps)) (told_from monitors (length (take k steps)) (drop k steps)),
      ap length (told_append monitors (take k steps) (drop k steps)),
      ap (λ (l : List Step). length (told monitors l)) (take-append-drop k steps),
    )

pub whole : (most : ℕ) (s : SessionValue) (f : FoldedValue) → length (told s.monitors f.steps) < most
    → AllByRecursion (λ m. m.position ≤ length f.steps) s.monitors
    → (told_some most s.monitors f.steps ≡ told s.monitors f.steps) × (after_some most s f ≡ after_pump s f)
whole most s f few within =
    let all = all_told most s.monitors f.steps (omega (arith, few, no_more s.monitors f.steps (reached most s.monitors f.steps))) in (
      ap (λ (k : ℕ). told s.monitors (take k f.steps)) all ∙ ap (told s.monitors) (take_all (length f.steps) f.steps (omega arith)),
      ap (λ (k : ℕ). shown s f (map (moved_past k) s.monitors)) all ∙ ap (shown s f) (moved_all (length f.steps) s.monitors within),
    )
