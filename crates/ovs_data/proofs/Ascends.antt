-- What a list in ascending order has at each key, and that this determines it.
use Rattle.std.proofs.Common.{◌≡◌, List, [], ◌∷◌, Bool, true, false, cond, refl, sym, ap, ◌∙◌, Option, Some, None}
use Rattle.std.specs.declared.cmp.Ordering.{Ordering}
use Rattle.std.specs.declared.cmp.Ordering.TheVariants.{Less, Equal, Greater}
use Rattle.std.specs.Ordering.{match_ordering, ordering_reverse}
use Rattle.std.specs.Cmp.{IsTotalOrder}
use Rattle.std.proofs.lemmas.Cmp.{tied_itself, tied_back, alike_right}
use Rattle.ovs_data.specs.Ascending.{IsBefore, IsAscending}
use Rattle.ovs_data.specs.Exchange.{entry_at, exchanged_at, AreExchanged}
use Rattle.ovs_data.proofs.Exchanges.{exchange, exchange_from}

some_is : {E : Type 0} (x y : E) → Some x ≡ Some y → x ≡ y
some_is x y e = cc

abbrev IsExact : {K : Type 0} → (K → K → Ordering) → Type 0
IsExact {K} order = (x y : K) → order x y ≡ Equal → x ≡ y

module _ {K E : Type 0} (order : K → K → Ordering) (total : IsTotalOrder order) (key : E → K) where
  -- a key before the whole list has nothing
  pub entry_at-before : (q : K) (xs : List E) → IsBefore order key q xs → entry_at order key q xs ≡ None
  entry_at-before q [] h = refl
  entry_at-before q (x ∷ xs) h = rw h.0 (entry_at-before q xs h.1)

  -- what is before one key is before the keys after it
  pub IsBefore-trans : (p q : K) (xs : List E) → order p q ≡ Less → IsBefore order key q xs → IsBefore order key p xs
  IsBefore-trans p q [] lt h = tt
  IsBefore-trans p q (x ∷ xs) lt h = (total.trans p q (key x) lt h.0, IsBefore-trans p q xs lt h.1)

  -- keys that tie are before the same
  pub IsBefore-tied : (p q : K) (xs : List E) → order p q ≡ Equal → IsBefore order key q xs → IsBefore order key p xs
  IsBefore-tied p q [] e h = tt
  IsBefore-tied p q (x ∷ xs) e h = (total.congr p q (key x) e ∙ h.0, IsBefore-tied p q xs e h.1)

  pub flip_greater : (p q : K) → order p q ≡ Greater → order q p ≡ Less
  flip_greater p q e = total.antisymm q p ∙ ap ordering_reverse e

  flip_less : (p q : K) → order p q ≡ Less → order q p ≡ Greater
  flip_less p q e = total.antisymm q p ∙ ap ordering_reverse e

  -- equal look-ups, equal lists
  pub same_entries : (xs ys : List E) → IsAscending order key xs → IsAscending order key ys → ((q : K) → entry_at order key q xs ≡ entry_at order key q ys) → xs ≡ ys
  same_entries [] [] a b h = refl
  same_entries [] (y ∷ ys) a b h = absurd (let e = rw (tied_itself total (key y)) at (h (key y)) in cc)
  same_entries (x ∷ xs) [] a b h = absurd (let e = rw (tied_itself total (key x)) at (h (key x)) in cc)
  same_entries (x ∷ xs) (y ∷ ys) a b h =
      elim (order (key x) (key y)) as (λ o. order (key x) (key y) ≡ o → x ∷ xs ≡ y ∷ ys) [
        | Less ↦ λ e. absurd (
            let gone : entry_at order key (key x) ys ≡ None = entry_at-before (key x) ys (IsBefore-trans (key x) (key y) ys e b.0) in
            let clash = rw (tied_itself total (key x), e, gone) at (h (key x)) in cc)
        | Equal ↦ λ e.
            let first : x ≡ y = some_is x y (rw (tied_itself total (key x), e) at (h (key x))) in
            let others : (q : K) → entry_at order key q xs ≡ entry_at order key q ys = λ q.
            elim (order q (key x)) as (λ o. order q (key x) ≡ o → entry_at order key q xs ≡ entry_at order key q ys) [
              | Less ↦ λ d. let d' : order q (key y) ≡ Less = rw (← first) d in rw (d, d') at (h q)
              | Equal ↦ λ d.
                  entry_at-before q xs (IsBefore-tied q (key x) xs d a.0)
                  ∙ sym (entry_at-before q ys (IsBefore-tied q (key y) ys (rw (← first) d) b.0))
              | Greater ↦ λ d. let d' : order q (key y) ≡ Greater = rw (← first) d in rw (d, d') at (h q)
            ] refl in
            ap (λ (z : E). z ∷ xs) first ∙ ap (λ (zs : List E). y ∷ zs) (same_entries xs ys a.1 b.1 others)
        | Greater ↦ λ e. absurd (
            let lt : order (key y) (key x) ≡ Less = flip_greater (key x) (key y) e in
            let gone : entry_at order key (key y) xs ≡ None = entry_at-before (key y) xs (IsBefore-trans (key y) (key x) xs lt a.0) in
            let clash = rw (tied_itself total (key y), lt, gone) at (h (key y)) in cc)
      ] refl

  module _ (is_same : E → E → Bool) where
    abbrev from : E → (List E → List E) → List E → List E
    from = exchange_from (λ x y. order (key x) (key y)) is_same

    abbrev ex : List E → List E → List E
    ex = exchange (λ x y. order (key x) (key y)) is_same

    -- a key before both lists is before what they make
    IsBefore-from : (q : K) (x : E) (rest : List E → List E) → ((ys : List E) → IsBefore order key q ys → IsBefore order key q (rest ys)) → order q (key x) ≡ Less
        → (ys : List E) → IsBefore order key q ys → IsBefore order key q (from x rest ys)
    IsBefore-from q x rest h lt [] b = (lt, h [] tt)
    IsBefore-from q x rest h lt (y ∷ ys) b =
        elim (order (key x) (key y)) as (λ o. IsBefore order key q (match_ordering o (x ∷ rest (y ∷ ys)) (cond (is_same x y) (rest ys) (y ∷ rest ys)) (y ∷ from x rest ys))) [
          | Less ↦ (lt, h (y ∷ ys) b)
          | Equal ↦ elim (is_same x y) as (λ s. IsBefore order key q (cond s (rest ys) (y ∷ rest ys))) [ true ↦ h ys b.1 | false ↦ (b.0, h ys b.1) ]
          | Greater ↦ (b.0, IsBefore-from q x rest h lt ys b.1)
        ]

    pub IsBefore-exchange : (q : K) (xs ys : List E) → IsBefore order key q xs → IsBefore order key q ys → IsBefore order key q (ex xs ys)
    IsBefore-exchange q [] ys a b = b
    IsBefore-exchange q (x ∷ xs) ys a b = IsBefore-from q x (ex xs) (λ zs c. IsBefore-exchange q xs zs a.1 c) a.0 ys b

    IsAscending-from : (x : E) (xs : List E) → IsBefore order key (key x) xs → ((ys : List E) → IsAscending order key ys → IsAscending order key (ex xs ys))
        → (ys : List E) → IsAscending order key ys → IsAscending order key (from x (ex xs) ys)
    IsAscending-from x xs a h [] b = (IsBefore-exchange (key x) xs [] a tt, h [] tt)
    IsAscending-from x xs a h (y ∷ ys) b =
        elim (order (key x) (key y)) as (λ o. order (key x) (key y) ≡ o → IsAscending order key (match_ordering o (x ∷ ex xs (y ∷ ys)) (cond (is_same x y) (ex xs ys) (y ∷ ex xs ys)) (y ∷ from x (ex xs) ys))) [
          | Less ↦ λ e. (IsBefore-exchange (key x) xs (y ∷ ys) a (e, IsBefore-trans (key x) (key y) ys e b.0), h (y ∷ ys) b)
          | Equal ↦ λ e. elim (is_same x y) as (λ s. IsAscending order key (cond s (ex xs ys) (y ∷ ex xs ys))) [
            | true ↦ h ys b.1
            | false ↦ (IsBefore-exchange (key y) xs ys (IsBefore-tied (key y) (key x) xs (tied_back total (key x) (key y) e) a) b.0, h ys b.1)
          ]
          | Greater ↦ λ e.
              let before : IsBefore order key (key y) (from x (ex xs) ys) =
              let lt : order (key y) (key x) ≡ Less = flip_greater (key x) (key y) e in
              IsBefore-from (key y) x (ex xs) (λ zs c. IsBefore-exchange (key y) xs zs (IsBefore-trans (key y) (key x) xs lt a) c) lt ys b.0 in
              (before, IsAscending-from x xs a h ys b.1)
        ] refl

    pub IsAscending-exchange : (xs ys : List E) → IsAscending order key xs → IsAscending order key ys → IsAscending order key (ex xs ys)
    IsAscending-exchange [] ys a b = b
    IsAscending-exchange (x ∷ xs) ys a b = IsAscending-from x xs a.0 (λ zs c. IsAscending-exchange xs zs a.1 c) ys b

    abbrev at : K → List E → Option E
    at = entry_at order key

    entry_at-tied : (q : K) (x : E) (xs : List E) (y : E) (ys : List E) (s : Bool) → is_same x y ≡ s → order q (key x) ≡ order q (key y)
        → at q (ex xs ys) ≡ exchanged_at is_same (at q xs) (at q ys) → (order q (key x) ≡ Equal → at q (ex xs ys) ≡ None)
        → at q (cond s (ex xs ys) (y ∷ ex xs ys)) ≡ exchanged_at is_same (at q (x ∷ xs)) (at q (y ∷ ys))
    entry_at-tied q x xs y ys true s alike h gone =
        rw (← alike) (elim (order q (key x)) as (λ o. order q (key x) ≡ o → at q (ex xs ys) ≡ exchanged_at is_same (match_ordering o (at q xs) (Some x) (at q xs)) (match_ordering o (at q ys) (Some y) (at q ys))) [
          | Less ↦ λ d. h
          | Equal ↦ λ d. gone d ∙ rw s refl
          | Greater ↦ λ d. h
        ] refl)
    entry_at-tied q x xs y ys false s alike h gone =
        rw (← alike) (elim (order q (key x)) as (λ o. match_ordering o (at q (ex xs ys)) (Some y) (at q (ex xs ys)) ≡ exchanged_at is_same (match_ordering o (at q xs) (Some x) (at q xs)) (match_ordering o (at q ys) (Some y) (at q ys))) [
          | Less ↦ h
          | Equal ↦ rw s refl
          | Greater ↦ h
        ])

    entry_at-from : (q : K) (x : E) (xs : List E) → IsBefore order key (key x) xs → ((ys : List E) → IsAscending order key ys → at q (ex xs ys) ≡ exchanged_at is_same (at q xs) (at q ys))
        → (ys : List E) → IsAscending order key ys → at q (from x (ex xs) ys) ≡ exchanged_at is_same (at q (x ∷ xs)) (at q ys)
    entry_at-from q x xs a h [] b =
        elim (order q (key x)) as (λ o. match_ordering o (at q (ex xs [])) (Some x) (at q (ex xs [])) ≡ exchanged_at is_same (match_ordering o (at q xs) (Some x) (at q xs)) None) [
          | Less ↦ h [] tt
          | Equal ↦ refl
          | Greater ↦ h [] tt
        ]
    entry_at-from q x xs a h (y ∷ ys) b =
        elim (order (key x) (key y)) as (λ o. order (key x) (key y) ≡ o → at q (match_ordering o (x ∷ ex xs (y ∷ ys)) (cond (is_same x y) (ex xs ys) (y ∷ ex xs ys)) (y ∷ from x (ex xs) ys)) ≡ exchanged_at is_same (at q (x ∷ xs)) (at q (y ∷ ys))) [
          | Less ↦ λ e. elim (order q (key x)) as (λ o. order q (key x) ≡ o → match_ordering o (at q (ex xs (y ∷ ys))) (Some x) (at q (ex xs (y ∷ ys))) ≡ exchanged_at is_same (match_ordering o (at q xs) (Some x) (at q xs)) (at q (y ∷ ys))) [
            | Less ↦ λ d. h (y ∷ ys) b
            | Equal ↦ λ d.
                let gone : at q (y ∷ ys) ≡ None = entry_at-before q (y ∷ ys) (IsBefore-tied q (key x) (y ∷ ys) d (e, IsBefore-trans (key x) (key y) ys e b.0)) in
                ap (exchanged_at is_same (Some x)) (sym gone)
            | Greater ↦ λ d. h (y ∷ ys) b
          ] refl
          | Equal ↦ λ e.
              let alike : order q (key x) ≡ order q (key y) = alike_right total (key x) (key y) q e in
              entry_at-tied q x xs y ys (is_same x y) refl alike (h ys b.1) (λ d.
              entry_at-before q (ex xs ys) (IsBefore-exchange q xs ys (IsBefore-tied q (key x) xs d a) (IsBefore-tied q (key y) ys (sym alike ∙ d) b.0)))
          | Greater ↦ λ e.
              let lt : order (key y) (key x) ≡ Less = flip_greater (key x) (key y) e in
              elim (order q (key y)) as (λ o. order q (key y) ≡ o → match_ordering o (at q (from x (ex xs) ys)) (Some y) (at q (from x (ex xs) ys)) ≡ exchanged_at is_same (at q (x ∷ xs)) (match_ordering o (at q ys) (Some y) (at q ys))) [
                | Less ↦ λ d. entry_at-from q x xs a h ys b.1
                | Equal ↦ λ d.
                    let gone : at q (x ∷ xs) ≡ None = entry_at-before q (x ∷ xs) (IsBefore-tied q (key y) (x ∷ xs) d (lt, IsBefore-trans (key y) (key x) xs lt a)) in
                    ap (λ o. exchanged_at is_same o (Some y)) (sym gone)
                | Greater ↦ λ d. entry_at-from q x xs a h ys b.1
              ] refl
        ] refl

    -- what both lists' exchange has at a key
    pub entry_at-exchange : (q : K) (xs ys : List E) → IsAscending order key xs → IsAscending order key ys → at q (ex xs ys) ≡ exchanged_at is_same (at q xs) (at q ys)
    entry_at-exchange q [] ys a b = refl
    entry_at-exchange q (x ∷ xs) ys a b = entry_at-from q x xs a.0 (λ zs c. entry_at-exchange q xs zs a.1 c) ys b

-- ---- entries as their own keys

module _ {K E : Type 0} (order : K → K → Ordering) (key : E → K) where
  abbrev by_key : E → E → Ordering
  by_key x y = order (key x) (key y)

  IsBefore-by_key : (x : E) (ys : List E) → IsBefore by_key (λ y. y) x ys → IsBefore order key (key x) ys
  IsBefore-by_key x [] h = tt
  IsBefore-by_key x (y ∷ ys) h = (h.0, IsBefore-by_key x ys h.1)

  by_key-IsBefore : (x : E) (ys : List E) → IsBefore order key (key x) ys → IsBefore by_key (λ y. y) x ys
  by_key-IsBefore x [] h = tt
  by_key-IsBefore x (y ∷ ys) h = (h.0, by_key-IsBefore x ys h.1)

  pub IsAscending-by_key : (xs : List E) → IsAscending by_key (λ x. x) xs → IsAscending order key xs
  IsAscending-by_key [] h = tt
  IsAscending-by_key (x ∷ xs) h = (IsBefore-by_key x xs h.0, IsAscending-by_key xs h.1)

  pub by_key-IsAscending : (xs : List E) → IsAscending order key xs → IsAscending by_key (λ x. x) xs
  by_key-IsAscending [] h = tt
  by_key-IsAscending (x ∷ xs) h = (by_key-IsBefore x xs h.0, by_key-IsAscending xs h.1)

  pub entry_at-by_key : (q : E) (xs : List E) → entry_at by_key (λ x. x) q xs ≡ entry_at order key (key q) xs
  entry_at-by_key q [] = refl
  entry_at-by_key q (x ∷ xs) = ap (λ o. match_ordering (order (key q) (key x)) o (Some x) o) (entry_at-by_key q xs)

-- ---- what the exchange of two ascending lists is

module _ {E : Type 0} (order : E → E → Ordering) (total : IsTotalOrder order) (is_same : E → E → Bool) (old new d : List E)
    (a : IsAscending order (λ x. x) old) (b : IsAscending order (λ x. x) new) (e : d ≡ exchange order is_same old new) where
  pub IsAscending-exchanged : IsAscending order (λ x. x) d
  IsAscending-exchanged = rw e (IsAscending-exchange order total (λ x. x) is_same old new a b)

  pub AreExchanged-exchange : AreExchanged order is_same old new d
  AreExchanged-exchange q = rw e (entry_at-exchange order total (λ x. x) is_same q old new a b)
