-- The exchange of two lists is the difference of the sets or maps that they stand for.
use Rattle.std.proofs.Common.{◌≡◌, List, [], ◌∷◌, ◌++◌, Bool, true, false, cond, ◌||◌, ◌&&◌, Option, Some, None, refl, sym, ap, ◌∙◌}
use Rattle.std.specs.Prelude.{is_some, option_map, Result, Ok, Err, IfOk, ◌↔◌, MatchBool}
use Rattle.std.specs.List.{filter}
use Rattle.std.specs.Option.{option_eq}
use Rattle.std.specs.declared.cmp.Ordering.TheVariants.{Less, Equal, Greater}
use Rattle.std.specs.Ordering.{match_ordering, is_eq}
use Rattle.ovs_data.specs.declared.atom.Atom.{Atom}
use Rattle.ovs_data.specs.declared.column.Column.{Column}
use Rattle.ovs_data.specs.Column.{is_single, may_count}
use Rattle.ovs_data.specs.declared.datum.pairs.Pair.{Pair}
use Rattle.ovs_data.specs.declared.datum.Datum.{Datum}
use Rattle.ovs_data.specs.declared.datum.Datum.TheVariants.{Set, Map}
use Rattle.ovs_data.specs.Atom.{atom_cmp, kind_of}
use Rattle.ovs_data.specs.Pairs.{key_cmp, same_value}
use Rattle.ovs_data.specs.Ascending.{IsAscending, in_order}
use Rattle.ovs_data.specs.Exchange.{entry_at, exchanged_at, AreExchanged}
use Rattle.ovs_data.specs.Atom.{atom_eq}
use Rattle.ovs_data.specs.Datum.{contains, value_at, datum_len, is_empty, IsAlike, IsOrdered, IsDatumOf, IsShaped, HasKinds}
use Rattle.ovs_data.specs.Difference.{in_one, changed, is_exchanged, IsExchange, IsDifference, exchange_of, difference_of, changed_by}
use Rattle.ovs_data.proofs.Ascends.{same_entries, entry_at-by_key}
use Rattle.ovs_data.proofs.InOrder.{Ascends-in_order, at-in_order}
use Rattle.std.proofs.lemmas.Cmp.{tied_itself}
use Rattle.ovs_data.proofs.AtomOrder.{atom_total, atom_exact}

abbrev atom_at : Atom → List Atom → Option Atom
atom_at = entry_at atom_cmp (λ (x : Atom). x)

abbrev pair_at : Atom → List Pair → Option Pair
pair_at = entry_at atom_cmp (λ (p : Pair). p.key)

abbrev pub pair_value : Option Pair → Option Atom
pair_value = option_map (λ (p : Pair). p.value)

pub contains-at : (x : Atom) (ys : List Atom) → contains x ys ≡ is_some (atom_at x ys)
contains-at x [] = refl
contains-at x (y ∷ ys) =
    elim (atom_cmp x y) as (λ o. (is_eq o || contains x ys) ≡ is_some (match_ordering o (atom_at x ys) (Some y) (atom_at x ys))) [
      | Less ↦ contains-at x ys
      | Equal ↦ refl
      | Greater ↦ contains-at x ys
    ]

pub value_at-at : (k : Atom) (ps : List Pair) → value_at k ps ≡ option_map (λ (p : Pair). p.value) (pair_at k ps)
value_at-at k [] = refl
value_at-at k (p ∷ ps) =
    elim (atom_cmp k p.key) as (λ o. cond (is_eq o) (Some p.value) (value_at k ps) ≡ option_map (λ (q : Pair). q.value) (match_ordering o (pair_at k ps) (Some p) (pair_at k ps))) [
      | Less ↦ value_at-at k ps
      | Equal ↦ refl
      | Greater ↦ value_at-at k ps
    ]

in_one-is : (o p : Option Atom) → is_some (exchanged_at (λ _ _. true) o p) ≡ in_one (is_some o) (is_some p)
in_one-is None p = refl
in_one-is (Some x) None = refl
in_one-is (Some x) (Some y) = refl

changed-is : (o p : Option Pair) → option_map (λ (p : Pair). p.value) (exchanged_at same_value o p) ≡ changed (option_map (λ (p : Pair). p.value) o) (option_map (λ (p : Pair). p.value) p)
changed-is None p = refl
changed-is (Some x) None = refl
changed-is (Some x) (Some y) =
    elim (same_value x y) as (λ s. option_map (λ (p : Pair). p.value) (cond s None (Some y)) ≡ cond s None (Some y.value)) [ true ↦ refl | false ↦ refl ]

pub IsExchange-sets : (a b d : List Atom) → AreExchanged atom_cmp (λ _ _. true) a b d → IsExchange (Set a) (Set b) (Set d)
IsExchange-sets a b d h x =
    contains-at x d
    ∙ ap is_some (h x)
    ∙ in_one-is (atom_at x a) (atom_at x b)
    ∙ ap (λ v. in_one v (is_some (atom_at x b))) (sym (contains-at x a))
    ∙ ap (in_one (contains x a)) (sym (contains-at x b))

-- the value at the key of a pair
value_at-own : (p : Pair) (ps : List Pair) → value_at p.key ps ≡ pair_value (entry_at key_cmp (λ p. p) p ps)
value_at-own p ps = value_at-at p.key ps ∙ ap pair_value (sym (entry_at-by_key atom_cmp (λ (p : Pair). p.key) p ps))

pub IsExchange-maps : (a b d : List Pair) → AreExchanged key_cmp same_value a b d → IsExchange (Map a) (Map b) (Map d)
IsExchange-maps a b d h k =
    let q : Pair = record { key = k; value = k } in
    value_at-own q d
    ∙ ap pair_value (h q)
    ∙ changed-is (entry_at key_cmp (λ p. p) q a) (entry_at key_cmp (λ p. p) q b)
    ∙ ap (λ v. changed v (pair_value (entry_at key_cmp (λ p. p) q b))) (sym (value_at-own q a))
    ∙ ap (changed (value_at k a)) (sym (value_at-own q b))

-- ---- a set is its elements, and a map its values

same_atom : (x : Atom) (o p : Option Atom) → ((y : Atom) → o ≡ Some y → y ≡ x) → ((y : Atom) → p ≡ Some y → y ≡ x) → is_some o ≡ is_some p → o ≡ p
same_atom x None None f g e = refl
same_atom x None (Some y) f g e = absurd cc
same_atom x (Some y) None f g e = absurd cc
same_atom x (Some y) (Some z) f g e = ap Some (f y refl ∙ sym (g z refl))

some_is : {E : Type 0} (x y : E) → Some x ≡ Some y → x ≡ y
some_is x y e = cc

atom_at-is : (x : Atom) (ys : List Atom) (y : Atom) → atom_at x ys ≡ Some y → y ≡ x
atom_at-is x [] y e = absurd cc
atom_at-is x (z ∷ zs) y e =
    elim (atom_cmp x z) as (λ o. atom_cmp x z ≡ o → match_ordering o (atom_at x zs) (Some z) (atom_at x zs) ≡ Some y → y ≡ x) [
      | Less ↦ λ d f. atom_at-is x zs y f
      | Equal ↦ λ d f. sym (atom_exact x z d ∙ some_is z y f)
      | Greater ↦ λ d f. atom_at-is x zs y f
    ] refl e

pub same_sets : (a b : List Atom) → IsAscending atom_cmp (λ x. x) a → IsAscending atom_cmp (λ x. x) b → ((x : Atom) → contains x a ≡ contains x b) → a ≡ b
same_sets a b ha hb h =
    same_entries atom_cmp atom_total (λ (x : Atom). x) a b ha hb (λ q.
    same_atom q (atom_at q a) (atom_at q b) (atom_at-is q a) (atom_at-is q b) (sym (contains-at q a) ∙ h q ∙ contains-at q b))

pair_at-key : (k : Atom) (ps : List Pair) (p : Pair) → pair_at k ps ≡ Some p → p.key ≡ k
pair_at-key k [] p e = absurd cc
pair_at-key k (z ∷ zs) p e =
    elim (atom_cmp k z.key) as (λ o. atom_cmp k z.key ≡ o → match_ordering o (pair_at k zs) (Some z) (pair_at k zs) ≡ Some p → p.key ≡ k) [
      | Less ↦ λ d f. pair_at-key k zs p f
      | Equal ↦ λ d f. sym (atom_exact k z.key d ∙ ap (λ (q : Pair). q.key) (some_is z p f))
      | Greater ↦ λ d f. pair_at-key k zs p f
    ] refl e

same_pair : (k : Atom) (o p : Option Pair) → ((y : Pair) → o ≡ Some y → y.key ≡ k) → ((y : Pair) → p ≡ Some y → y.key ≡ k)
    → option_map (λ (p : Pair). p.value) o ≡ option_map (λ (p : Pair). p.value) p → o ≡ p
same_pair k None None f g e = refl
same_pair k None (Some y) f g e = absurd cc
same_pair k (Some y) None f g e = absurd cc
same_pair k (Some y) (Some z) f g e =
    let keys : y.key ≡ z.key = f y refl ∙ sym (g z refl) in
    let values : y.value ≡ z.value = some_is y.value z.value e in
    let both : ◌≡◌ {A = Pair} (record { key = y.key; value = y.value }) (record { key = z.key; value = z.value }) = rw (keys, values) refl in
    ap Some both

pub same_maps : (a b : List Pair) → IsAscending atom_cmp (λ p. p.key) a → IsAscending atom_cmp (λ p. p.key) b → ((k : Atom) → value_at k a ≡ value_at k b) → a ≡ b
same_maps a b ha hb h =
    same_entries atom_cmp atom_total (λ (p : Pair). p.key) a b ha hb (λ q.
    same_pair q (pair_at q a) (pair_at q b) (pair_at-key q a) (pair_at-key q b) (sym (value_at-at q a) ∙ h q ∙ value_at-at q b))

-- ---- a second exchange undoes the first

in_one-twice : (a b : Bool) → in_one a (in_one a b) ≡ b
in_one-twice true true = refl
in_one-twice true false = refl
in_one-twice false b = refl

pub atom_eq-self : (x : Atom) → atom_eq x x ≡ true
atom_eq-self x = ap is_eq (tied_itself atom_total x)

changed-twice : (v w : Option Atom) → changed v (changed v w) ≡ w
changed-twice None w = refl
changed-twice (Some v) None = rw (atom_eq-self v) refl
changed-twice (Some v) (Some w) =
    elim (atom_cmp v w) as (λ o. atom_cmp v w ≡ o → changed (Some v) (cond (is_eq o) None (Some w)) ≡ Some w) [
      | Less ↦ λ e. rw e refl
      | Equal ↦ λ e. ap Some (atom_exact v w e)
      | Greater ↦ λ e. rw e refl
    ] refl

-- what exchanged with old gives d is what d exchanged with old gives
pub undone : (old b d : Datum) → IsExchange old b d → IsExchange old d b
undone (Set old) (Set b) (Set d) h = λ x. sym (ap (in_one (contains x old)) (h x) ∙ in_one-twice (contains x old) (contains x b))
undone (Map old) (Map b) (Map d) h = λ k. sym (ap (changed (value_at k old)) (h k) ∙ changed-twice (value_at k old) (value_at k b))
undone (Set old) (Set b) (Map d) h = absurd h
undone (Set old) (Map b) d h = absurd h
undone (Map old) (Set b) d h = absurd h
undone (Map old) (Map b) (Set d) h = absurd h

-- one datum at most is the exchange of two
pub one_exchange : (old d x y : Datum) → IsOrdered x → IsOrdered y → IsExchange old d x → IsExchange old d y → x ≡ y
one_exchange (Set old) (Set d) (Set x) (Set y) hx hy e f = ap Set (same_sets x y hx hy (λ q. e q ∙ sym (f q)))
one_exchange (Map old) (Map d) (Map x) (Map y) hx hy e f = ap Map (same_maps x y hx hy (λ q. e q ∙ sym (f q)))
one_exchange (Set old) (Set d) (Set x) (Map y) hx hy e f = absurd f
one_exchange (Set old) (Set d) (Map x) y hx hy e f = absurd e
one_exchange (Set old) (Map d) x y hx hy e f = absurd e
one_exchange (Map old) (Set d) x y hx hy e f = absurd e
one_exchange (Map old) (Map d) (Set x) y hx hy e f = absurd e
one_exchange (Map old) (Map d) (Map x) (Set y) hx hy e f = absurd f

-- ---- what a call's result gives

pub applied_from : {F : Type 0} (c : Column) (old d : Datum) (r : Result Datum F) → is_single c ≡ false → IfOk r (IsExchange old d) → IfOk r (λ new. IsDifference c old new d)
applied_from c old d (Err f) s e = tt
applied_from c old d (Ok x) s e = rw s (undone old d x e)

pub only_from : {F : Type 0} (c : Column) (old d : Datum) (r : Result Datum F) → is_single c ≡ false → IfOk r (IsExchange old d) → IfOk r IsOrdered
    → IfOk r (λ new. (b : Datum) → IsOrdered b → IsDifference c old b d → new ≡ b)
only_from c old d (Err f) s e o = tt
only_from c old d (Ok x) s e o = λ b ordered h. one_exchange old d x b o ordered e (undone old b d (rw s at h))

-- ---- the elements of exactly one set, in order

pub atom_eq-true : (x y : Atom) → atom_eq x y ≡ true → x ≡ y
atom_eq-true x y e =
    elim (atom_cmp x y) as (λ o. atom_cmp x y ≡ o → is_eq o ≡ true → x ≡ y) [
      | Less ↦ λ d f. absurd cc
      | Equal ↦ λ d f. atom_exact x y d
      | Greater ↦ λ d f. absurd cc
    ] refl e

pub contains-in_order : (x : Atom) (ys : List Atom) → contains x (in_order atom_cmp ys) ≡ contains x ys
contains-in_order x ys =
    contains-at x (in_order atom_cmp ys) ∙ ap is_some (at-in_order atom_cmp atom_total (λ (x : Atom). x) x ys) ∙ sym (contains-at x ys)

pub contains-append : (x : Atom) (ys zs : List Atom) → contains x (ys ++ zs) ≡ (contains x ys || contains x zs)
contains-append x [] zs = refl
contains-append x (y ∷ ys) zs =
    elim (atom_eq x y) as (λ b. (b || contains x (ys ++ zs)) ≡ ((b || contains x ys) || contains x zs)) [ true ↦ refl | false ↦ contains-append x ys zs ]

pub contains-filter : (p : Atom → Bool) (x : Atom) (ys : List Atom) → contains x (filter p ys) ≡ (p x && contains x ys)
contains-filter p x [] = elim (p x) as (λ b. false ≡ (b && false)) [ true ↦ refl | false ↦ refl ]
contains-filter p x (y ∷ ys) =
    elim (p y) as (λ b. p y ≡ b → contains x (cond b (y ∷ filter p ys) (filter p ys)) ≡ (p x && (atom_eq x y || contains x ys))) [
      | true ↦ λ kept.
          elim (atom_eq x y) as (λ b. atom_eq x y ≡ b → (b || contains x (filter p ys)) ≡ (p x && (b || contains x ys))) [
            | true ↦ λ e. let holds : p x ≡ true = ap p (atom_eq-true x y e) ∙ kept in rw holds refl
            | false ↦ λ e. contains-filter p x ys
          ] refl
      | false ↦ λ left.
          elim (atom_eq x y) as (λ b. atom_eq x y ≡ b → contains x (filter p ys) ≡ (p x && (b || contains x ys))) [
            | true ↦ λ e. let fails : p x ≡ false = ap p (atom_eq-true x y e) ∙ left in contains-filter p x ys ∙ rw fails refl
            | false ↦ λ e. contains-filter p x ys
          ] refl
    ] refl

in_one-either : (a b : Bool) → (in_one a b && (a || b)) ≡ in_one a b
in_one-either true true = refl
in_one-either true false = refl
in_one-either false true = refl
in_one-either false false = refl

IsExchange-exchange_of_sets : (a b : List Atom) → IsExchange (Set a) (Set b) (exchange_of (Set a) (Set b))
IsExchange-exchange_of_sets a b x =
    let p : Atom → Bool = λ y. in_one (contains y a) (contains y b) in
    contains-in_order x (filter p (a ++ b))
    ∙ contains-filter p x (a ++ b)
    ∙ ap (λ c. p x && c) (contains-append x a b)
    ∙ in_one-either (contains x a) (contains x b)

-- ---- the pairs that the exchange of two maps has, in order

pub value_at-in_order : (k : Atom) (ps : List Pair) → value_at k (in_order key_cmp ps) ≡ value_at k ps
value_at-in_order k ps =
    value_at-at k (in_order key_cmp ps) ∙ ap pair_value (at-in_order atom_cmp atom_total (λ (p : Pair). p.key) k ps) ∙ sym (value_at-at k ps)

-- the pairs of a key that a test lets stay are those of one value
module _ (k : Atom) (t : Option Atom) (p : Pair → Bool) (decides : (q : Pair) → k ≡ q.key → p q ≡ option_eq atom_eq t (Some q.value)) where
  value_at-filter : (q : Pair) (qs : List Pair) → value_at k (filter p (q ∷ qs))
      ≡ cond (atom_eq k q.key && option_eq atom_eq t (Some q.value)) (Some q.value) (value_at k (filter p qs))
  value_at-filter q qs =
      elim (atom_eq k q.key) as (λ b. atom_eq k q.key ≡ b → value_at k (filter p (q ∷ qs)) ≡ cond (b && option_eq atom_eq t (Some q.value)) (Some q.value) (value_at k (filter p qs))) [
        | true ↦ λ e.
            rw (decides q (atom_eq-true k q.key e)) (
            elim (option_eq atom_eq t (Some q.value)) as (λ s. value_at k (cond s (q ∷ filter p qs) (filter p qs)) ≡ cond s (Some q.value) (value_at k (filter p qs))) [
              | true ↦ rw e refl
              | false ↦ refl
            ])
        | false ↦ λ e.
            elim (p q) as (λ s. value_at k (cond s (q ∷ filter p qs) (filter p qs)) ≡ value_at k (filter p qs)) [
              | true ↦ rw e refl
              | false ↦ refl
            ]
      ] refl

  none_stays : t ≡ None → (qs : List Pair) → value_at k (filter p qs) ≡ None
  none_stays none [] = refl
  none_stays none (q ∷ qs) =
      value_at-filter q qs
      ∙ rw none (elim (atom_eq k q.key) as (λ b. cond (b && false) (Some q.value) (value_at k (filter p qs)) ≡ None) [ true ↦ none_stays none qs | false ↦ none_stays none qs ])

  module _ (v : Atom) (some : t ≡ Some v) where
    first_stays : (qs : List Pair) → value_at k qs ≡ Some v → value_at k (filter p qs) ≡ Some v
    first_stays [] e = absurd cc
    first_stays (q ∷ qs) e =
        value_at-filter q qs
        ∙ rw some (elim (atom_eq k q.key) as (λ b. cond b (Some q.value) (value_at k qs) ≡ Some v → cond (b && atom_eq v q.value) (Some q.value) (value_at k (filter p qs)) ≡ Some v) [
          | true ↦ λ f.
              let same : v ≡ q.value = sym (some_is q.value v f) in
              rw (← same, atom_eq-self v) refl
          | false ↦ first_stays qs
        ] e)

    later_stays : (qs rs : List Pair) → value_at k (filter p rs) ≡ Some v → value_at k (filter p (qs ++ rs)) ≡ Some v
    later_stays [] rs e = e
    later_stays (q ∷ qs) rs e =
        value_at-filter q (qs ++ rs)
        ∙ rw some (elim (atom_eq k q.key) as (λ b. cond (b && atom_eq v q.value) (Some q.value) (value_at k (filter p (qs ++ rs))) ≡ Some v) [
          | true ↦ elim (atom_eq v q.value) as (λ b. atom_eq v q.value ≡ b → cond b (Some q.value) (value_at k (filter p (qs ++ rs))) ≡ Some v) [
            | true ↦ λ s. ap Some (sym (atom_eq-true v q.value s))
            | false ↦ λ s. later_stays qs rs e
          ] refl
          | false ↦ later_stays qs rs e
        ])

value_at-append : (k v : Atom) (ps qs : List Pair) → value_at k ps ≡ Some v → value_at k (ps ++ qs) ≡ Some v
value_at-append k v [] qs e = absurd cc
value_at-append k v (p ∷ ps) qs e =
    elim (atom_eq k p.key) as (λ b. cond b (Some p.value) (value_at k ps) ≡ Some v → cond b (Some p.value) (value_at k (ps ++ qs)) ≡ Some v) [
      | true ↦ λ f. f
      | false ↦ value_at-append k v ps qs
    ] e

changed_from : (v w : Option Atom) (x : Atom) → changed v w ≡ Some x → (P : Type 0) → (v ≡ Some x → P) → (w ≡ Some x → P) → P
changed_from None w x e P f g = g e
changed_from (Some v) None x e P f g = f e
changed_from (Some v) (Some w) x e P f g =
    elim (atom_eq v w) as (λ b. cond b None (Some w) ≡ Some x → P) [ true ↦ λ d. absurd cc | false ↦ g ] e

IsExchange-exchange_of_maps : (a b : List Pair) → IsExchange (Map a) (Map b) (exchange_of (Map a) (Map b))
IsExchange-exchange_of_maps a b k =
    let p : Pair → Bool = is_exchanged a b in
    let t : Option Atom = changed (value_at k a) (value_at k b) in
    let decides : (q : Pair) → k ≡ q.key → p q ≡ option_eq atom_eq t (Some q.value) = λ q e. rw e refl in
    value_at-in_order k (filter p (a ++ b))
    ∙ elim t as (λ o. t ≡ o → value_at k (filter p (a ++ b)) ≡ o) [
      | None ↦ λ e. none_stays k t p decides e (a ++ b)
      | Some v ↦ λ e.
          changed_from (value_at k a) (value_at k b) v e (value_at k (filter p (a ++ b)) ≡ Some v)
          (λ f. first_stays k t p decides v e (a ++ b) (value_at-append k v a b f))
          (λ f. later_stays k t p decides v e a b (first_stays k t p decides v e b f))
    ] refl

-- ---- the functions

pub IsExchange-exchange_of : (old new : Datum) → IsAlike old new → IsOrdered old → IsOrdered new → IsExchange old new (exchange_of old new)
IsExchange-exchange_of (Set a) (Set b) alike ha hb = IsExchange-exchange_of_sets a b
IsExchange-exchange_of (Map a) (Map b) alike ha hb = IsExchange-exchange_of_maps a b
IsExchange-exchange_of (Set a) (Map b) alike ha hb = absurd alike
IsExchange-exchange_of (Map a) (Set b) alike ha hb = absurd alike

pub IsOrdered-exchange_of : (old new : Datum) → IsOrdered old → IsOrdered new → IsOrdered (exchange_of old new)
IsOrdered-exchange_of (Set a) (Set b) ha hb = Ascends-in_order atom_cmp atom_total (λ (x : Atom). x) (filter (λ x. in_one (contains x a) (contains x b)) (a ++ b))
IsOrdered-exchange_of (Map a) (Map b) ha hb = Ascends-in_order atom_cmp atom_total (λ (p : Pair). p.key) (filter (is_exchanged a b) (a ++ b))
IsOrdered-exchange_of (Set a) (Map b) ha hb = hb
IsOrdered-exchange_of (Map a) (Set b) ha hb = hb

pub IsAlike-exchange_of : (old new : Datum) → IsAlike old new → IsAlike old (exchange_of old new)
IsAlike-exchange_of (Set a) (Set b) alike = tt
IsAlike-exchange_of (Map a) (Map b) alike = tt
IsAlike-exchange_of (Set a) (Map b) alike = absurd alike
IsAlike-exchange_of (Map a) (Set b) alike = absurd alike

-- the exchange of two data is the only one in order
pub exchange_of_only : (old new d : Datum) → IsAlike old new → IsOrdered old → IsOrdered new → IsOrdered d → IsExchange old new d → d ≡ exchange_of old new
exchange_of_only old new d alike ha hb o e =
    one_exchange old new d (exchange_of old new) o (IsOrdered-exchange_of old new ha hb) e (IsExchange-exchange_of old new alike ha hb)

-- what both have differs from old by what makes old the other
pub exchange_of-twice : (old new : Datum) → IsAlike old new → IsOrdered old → IsOrdered new → exchange_of old (exchange_of old new) ≡ new
exchange_of-twice old new alike ha hb =
    let d : Datum = exchange_of old new in
    sym (exchange_of_only old d new (IsAlike-exchange_of old new alike) ha (IsOrdered-exchange_of old new ha hb) hb (undone old new d (IsExchange-exchange_of old new alike ha hb)))

-- the difference is a difference
pub IsDifference-difference_of : (c : Column) (old new : Datum) → IsAlike old new → IsOrdered old → IsOrdered new → IsDifference c old new (difference_of c old new)
IsDifference-difference_of c old new alike ha hb =
    elim (is_single c) as (λ b. MatchBool b (cond b new (exchange_of old new) ≡ new) (IsExchange old new (cond b new (exchange_of old new)))) [
      | true ↦ refl
      | false ↦ IsExchange-exchange_of old new alike ha hb
    ]

-- applying the difference gives the new datum
pub changed_by-difference_of : (c : Column) (old new : Datum) → IsAlike old new → IsOrdered old → IsOrdered new → changed_by c old (difference_of c old new) ≡ new
changed_by-difference_of c old new alike ha hb =
    elim (is_single c) as (λ b. cond b (cond b new (exchange_of old new)) (exchange_of old (cond b new (exchange_of old new))) ≡ new) [
      | true ↦ refl
      | false ↦ exchange_of-twice old new alike ha hb
    ]

-- and the difference to what a difference gives is that difference
pub difference_of-changed_by : (c : Column) (old diff : Datum) → IsAlike old diff → IsOrdered old → IsOrdered diff → difference_of c old (changed_by c old diff) ≡ diff
difference_of-changed_by c old diff alike ha hb =
    elim (is_single c) as (λ b. cond b (cond b diff (exchange_of old diff)) (exchange_of old (cond b diff (exchange_of old diff))) ≡ diff) [
      | true ↦ refl
      | false ↦ exchange_of-twice old diff alike ha hb
    ]

pub IsOrdered-difference_of : (c : Column) (old new : Datum) → IsOrdered old → IsOrdered new → IsOrdered (difference_of c old new)
IsOrdered-difference_of c old new ha hb =
    elim (is_single c) as (λ b. IsOrdered (cond b new (exchange_of old new))) [ true ↦ hb | false ↦ IsOrdered-exchange_of old new ha hb ]

pub IsOrdered-changed_by : (c : Column) (old diff : Datum) → IsOrdered old → IsOrdered diff → IsOrdered (changed_by c old diff)
IsOrdered-changed_by c old diff ha hb =
    elim (is_single c) as (λ b. IsOrdered (cond b diff (exchange_of old diff))) [ true ↦ hb | false ↦ IsOrdered-exchange_of old diff ha hb ]

pub IsAlike-difference_of : (c : Column) (old new : Datum) → IsAlike old new → IsAlike old (difference_of c old new)
IsAlike-difference_of c old new alike =
    elim (is_single c) as (λ b. IsAlike old (cond b new (exchange_of old new))) [ true ↦ alike | false ↦ IsAlike-exchange_of old new alike ]

pub IsAlike-changed_by : (c : Column) (old diff : Datum) → IsAlike old diff → IsAlike old (changed_by c old diff)
IsAlike-changed_by c old diff alike =
    elim (is_single c) as (λ b. IsAlike old (cond b diff (exchange_of old diff))) [ true ↦ alike | false ↦ IsAlike-exchange_of old diff alike ]

-- ---- no difference

abbrev empty_like : Datum → Datum
empty_like (Set xs) = Set []
empty_like (Map ps) = Map []

is_empty-is : (d : Datum) → is_empty d ≡ true → d ≡ empty_like d
is_empty-is (Set []) e = refl
is_empty-is (Set (x ∷ xs)) e = absurd cc
is_empty-is (Map []) e = refl
is_empty-is (Map (p ∷ ps)) e = absurd cc

-- exchanged with nothing a datum stays
exchange_of-none : (old : Datum) → IsOrdered old → exchange_of old (empty_like old) ≡ old
exchange_of-none (Set xs) h =
    sym (exchange_of_only (Set xs) (Set []) (Set xs) tt h tt h (λ x. elim (contains x xs) as (λ b. b ≡ in_one b false) [ true ↦ refl | false ↦ refl ]))
exchange_of-none (Map ps) h =
    sym (exchange_of_only (Map ps) (Map []) (Map ps) tt h tt h (λ k. elim (value_at k ps) as (λ v. v ≡ changed v None) [ None ↦ refl | Some v ↦ refl ]))

empty_like-exchange_of : (old new : Datum) → IsAlike old new → empty_like (exchange_of old new) ≡ empty_like old
empty_like-exchange_of (Set a) (Set b) alike = refl
empty_like-exchange_of (Map a) (Map b) alike = refl
empty_like-exchange_of (Set a) (Map b) alike = absurd alike
empty_like-exchange_of (Map a) (Set b) alike = absurd alike

is_empty-empty_like : (d : Datum) → is_empty (empty_like d) ≡ true
is_empty-empty_like (Set xs) = refl
is_empty-empty_like (Map ps) = refl

IsAlike-itself : (d : Datum) → IsAlike d d
IsAlike-itself (Set xs) = tt
IsAlike-itself (Map ps) = tt

IsAlike-empty_like : (d : Datum) → IsAlike d (empty_like d)
IsAlike-empty_like (Set xs) = tt
IsAlike-empty_like (Map ps) = tt

IsOrdered-empty_like : (d : Datum) → IsOrdered (empty_like d)
IsOrdered-empty_like (Set xs) = tt
IsOrdered-empty_like (Map ps) = tt

-- of a column that isn't single, the difference is empty exactly where nothing changed
pub is_empty-difference_of : (c : Column) (old new : Datum) → is_single c ≡ false → IsAlike old new → IsOrdered old → IsOrdered new
    → (is_empty (difference_of c old new) ≡ true) ↔ (old ≡ new)
is_empty-difference_of c old new single alike ha hb =
    let is : difference_of c old new ≡ exchange_of old new = rw single refl in
    let same : is_empty (exchange_of old new) ≡ true → old ≡ new = λ e.
    sym (exchange_of-none old ha)
    ∙ ap (exchange_of old) (sym (is_empty-is (exchange_of old new) e ∙ empty_like-exchange_of old new alike))
    ∙ exchange_of-twice old new alike ha hb in
    let none : old ≡ new → is_empty (exchange_of old new) ≡ true = λ e.
    ap (λ (d : Datum). is_empty (exchange_of old d)) (sym e)
    ∙ ap (λ (d : Datum). is_empty (exchange_of old d)) (sym (exchange_of-none old ha))
    ∙ ap is_empty (exchange_of-twice old (empty_like old) (IsAlike-empty_like old) ha (IsOrdered-empty_like old))
    ∙ is_empty-empty_like old in
    ((λ e. same (sym (ap is_empty is) ∙ e)), (λ e. ap is_empty is ∙ none e))

-- ---- data of a column

pub IsAlike-shaped : (c : Column) (old new : Datum) → IsShaped c old → IsShaped c new → IsAlike old new
IsAlike-shaped c (Set a) (Set b) p q = tt
IsAlike-shaped c (Map a) (Map b) p q = tt
IsAlike-shaped c (Set a) (Map b) p q = absurd (let clash = rw p at q in cc)
IsAlike-shaped c (Map a) (Set b) p q = absurd (let clash = rw q at p in cc)

-- two data of one column are both sets, or both maps
pub IsAlike-data : (c : Column) (old new : Datum) → IsDatumOf c old → IsDatumOf c new → IsAlike old new
IsAlike-data c old new p q = IsAlike-shaped c old new p.shape q.shape

one_of : (a b : Bool) → in_one a b ≡ true → (P : Type 0) → (a ≡ true → P) → (b ≡ true → P) → P
one_of true b e P f g = f refl
one_of false b e P f g = g e

HasKinds-exchange : (c : Column) (old new d : Datum) → IsExchange old new d → HasKinds c old → HasKinds c new → HasKinds c d
HasKinds-exchange c (Set old) (Set new) (Set d) e h k = λ x is. one_of (contains x old) (contains x new) (sym (e x) ∙ is) (kind_of x ≡ c.key) (h x) (k x)
HasKinds-exchange c (Map old) (Map new) (Map d) e h k = λ q v is. changed_from (value_at q old) (value_at q new) v (sym (e q) ∙ is) ((kind_of q ≡ c.key) × (Some (kind_of v) ≡ c.value)) (h q v) (k q v)
HasKinds-exchange c (Set old) (Set new) (Map d) e h k = absurd e
HasKinds-exchange c (Set old) (Map new) d e h k = absurd e
HasKinds-exchange c (Map old) (Set new) d e h k = absurd e
HasKinds-exchange c (Map old) (Map new) (Set d) e h k = absurd e

IsShaped-exchange : (c : Column) (old new d : Datum) → IsExchange old new d → IsShaped c old → IsShaped c d
IsShaped-exchange c (Set old) (Set new) (Set d) e h = h
IsShaped-exchange c (Map old) (Map new) (Map d) e h = h
IsShaped-exchange c (Set old) (Set new) (Map d) e h = absurd e
IsShaped-exchange c (Set old) (Map new) d e h = absurd e
IsShaped-exchange c (Map old) (Set new) d e h = absurd e
IsShaped-exchange c (Map old) (Map new) (Set d) e h = absurd e

-- a column that isn't single admits any number of elements
any_count : (c : Column) (x : Datum) → is_single c ≡ false → may_count c (datum_len x) ≡ true
any_count c x many = rw many refl

IsDatumOf-exchange : (c : Column) (old new d : Datum) → is_single c ≡ false → IsExchange old new d → IsOrdered d → IsDatumOf c old → IsDatumOf c new → IsDatumOf c d
IsDatumOf-exchange c old new d many e o p q = record {
  shape = IsShaped-exchange c old new d e p.shape;
  order = o;
  kinds = HasKinds-exchange c old new d e p.kinds q.kinds;
  count = any_count c d many;
}

-- the difference of two data of a column is one
pub IsDatumOf-difference_of : (c : Column) (old new : Datum) → IsDatumOf c old → IsDatumOf c new → IsDatumOf c (difference_of c old new)
IsDatumOf-difference_of c old new p q =
    elim (is_single c) as (λ b. is_single c ≡ b → IsDatumOf c (cond b new (exchange_of old new))) [
      | true ↦ λ single. q
      | false ↦ λ many. IsDatumOf-exchange c old new (exchange_of old new) many (IsExchange-exchange_of old new (IsAlike-data c old new p q) p.order q.order) (IsOrdered-exchange_of old new p.order q.order) p q
    ] refl

-- and so is what a difference makes of one
pub IsDatumOf-changed_by : (c : Column) (old diff : Datum) → IsDatumOf c old → IsDatumOf c diff → IsDatumOf c (changed_by c old diff)
IsDatumOf-changed_by c old diff p q = IsDatumOf-difference_of c old diff p q

-- what a call's result is, of such data
pub kept_from : {F : Type 0} (c : Column) (old d : Datum) (r : Result Datum F) → is_single c ≡ false → IfOk r (IsExchange old d) → IfOk r IsOrdered
    → IsDatumOf c old → IsDatumOf c d → IfOk r (IsDatumOf c)
kept_from c old d (Err f) many e o p q = tt
kept_from c old d (Ok x) many e o p q = IsDatumOf-exchange c old d x many e o p q
