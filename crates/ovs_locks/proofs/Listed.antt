-- What the names of a session tell of the locks.
use Rattle.std.proofs.Common.{◌≡◌, ℕ, suc, length, List, [], ◌∷◌, ◌++◌, Bool, true, false, cond, Option, Some, None, refl, sym, ap, ◌∙◌}
use Rattle.std.specs.Prelude.{filter, is_some, unwrap_or}
use Rattle.std.specs.declared.cmp.Ordering.{Ordering}
use Rattle.std.specs.declared.cmp.Ordering.TheVariants.{Less, Equal, Greater}
use Rattle.std.specs.Cmp.{eq_by_cmp_equiv}
use Rattle.std.specs.Cmp.Lexicographic.{slice_cmp, nat_list_cmp_total}
use Rattle.std.specs.FinMap.{nat_cmp-IsAntisymmetric, slice_cmp-IsAntisymmetric}
use Rattle.std.specs.List.{AllByRecursion}
use Rattle.std.specs.List.Sorted.{IsStrictlySortedBy}
use Rattle.std.specs.Map.{lookup, keys_of}
use Rattle.std.specs.Ordering.{nat_cmp, is_eq, ordering_reverse}
use Rattle.std.proofs.lemmas.List.{append-nil}
use Rattle.std.proofs.lemmas.Map.{lookup-none}
use Rattle.std.proofs.lemmas.Map.Entries.{none_below_head, none_past_head}
use Rattle.std.proofs.lemmas.Map.Keys.{sorted_head, sorted_tail, IsDistinct-from_sorted}
use Rattle.ovs_locks.specs.ByName.{ByName, Ascends, named, gathered}
use Rattle.ovs_locks.specs.BySession.{Names, mark_in}
use Rattle.ovs_locks.proofs.Gathering.{test, own_name, gathered_append}

-- ---- names in order

module _ {X : Type 0} where
  at_head : (e : List ℕ × X) (es : ByName X) → lookup (test e.0) (e ∷ es) ≡ Some e.1
  at_head e es = rw (own_name e.0) refl

  below : (q : List ℕ) (e : List ℕ × X) (es : ByName X) → Ascends (e ∷ es) → slice_cmp nat_cmp q e.0 ≡ Less → lookup (test q) (e ∷ es) ≡ None
  below q e es s less = lookup-none (test q) (e ∷ es) (none_below_head nat_list_cmp_total q e es s less)

  past : (q : List ℕ) (e : List ℕ × X) (es : ByName X) → Ascends (e ∷ es) → test q e.0 ≡ true → lookup (test q) es ≡ None
  past q e es s at = lookup-none (test q) es (none_past_head (eq_by_cmp_equiv nat_list_cmp_total) q e es (IsDistinct-from_sorted (slice_cmp nat_cmp) (keys_of (e ∷ es)) s) at)

  clash : (x : X) → Some x ≡ None → ⊥
  clash x e = absurd cc

  -- equal look-ups, equal lists
  same_names : (es fs : ByName X) → Ascends es → Ascends fs → ((q : List ℕ) → lookup (test q) es ≡ lookup (test q) fs) → es ≡ fs
  same_names [] [] s t same = refl
  same_names [] (f ∷ fs) s t same = absurd (clash f.1 (sym (at_head f fs) ∙ sym (same f.0)))
  same_names (e ∷ es) [] s t same = absurd (clash e.1 (sym (at_head e es) ∙ same e.0))
  same_names (e ∷ es) (f ∷ fs) s t same =
      by (slice_cmp nat_cmp e.0 f.0) refl (same_names es fs (sorted_tail (slice_cmp nat_cmp) e.0 (keys_of es) s) (sorted_tail (slice_cmp nat_cmp) f.0 (keys_of fs) t))
    where
      tails : (q : List ℕ) → e.0 ≡ f.0 → (b : Bool) → test q e.0 ≡ b → lookup (test q) es ≡ lookup (test q) fs
      tails q key true at = past q e es s at ∙ sym (past q f fs t (ap (test q) (sym key) ∙ at))
      tails q key false at =
          let a : lookup (test q) (e ∷ es) ≡ lookup (test q) es = rw at refl in
          let b : lookup (test q) (f ∷ fs) ≡ lookup (test q) fs = rw (ap (test q) (sym key) ∙ at) refl in
          sym a ∙ same q ∙ b

      by : (o : Ordering) → slice_cmp nat_cmp e.0 f.0 ≡ o → (((q : List ℕ) → lookup (test q) es ≡ lookup (test q) fs) → es ≡ fs) → e ∷ es ≡ f ∷ fs
      by Less is more = absurd (clash e.1 (sym (at_head e es) ∙ same e.0 ∙ below e.0 f fs t is))
      by Greater is more = absurd (clash f.1 (sym (at_head f fs) ∙ sym (same f.0) ∙ below f.0 e es s (nat_list_cmp_total.antisymm f.0 e.0 ∙ ap ordering_reverse is)))
      by Equal is more =
          let key : e.0 ≡ f.0 = slice_cmp-IsAntisymmetric nat_cmp-IsAntisymmetric e.0 f.0 is in
          let there : test e.0 f.0 ≡ true = ap is_eq is in
          let value : Some e.1 ≡ Some f.1 = sym (at_head e es) ∙ same e.0 ∙ rw there refl in
          let val : e.1 ≡ f.1 = cc in
          let rest = more (λ q. tails q key (test q e.0) refl) in
          λ i. (key i, val i) ∷ rest i

  found_later : (e : List ℕ × X) (es fs : ByName X) → AllByRecursion (λ k. slice_cmp nat_cmp e.0 k ≡ Less) (keys_of fs)
      → AllByRecursion (λ (x : List ℕ × X). lookup (test x.0) es ≡ Some x.1) fs → AllByRecursion (λ (x : List ℕ × X). lookup (test x.0) (e ∷ es) ≡ Some x.1) fs
  found_later e es [] less all = tt
  found_later e es (x ∷ fs) less all =
      let apart : test x.0 e.0 ≡ false = ap is_eq (nat_list_cmp_total.antisymm x.0 e.0 ∙ ap ordering_reverse less.0) in
      (rw apart all.0, found_later e es fs less.1 all.1)

  -- each is found under its name
  pub found : (es : ByName X) → Ascends es → AllByRecursion (λ (e : List ℕ × X). lookup (test e.0) es ≡ Some e.1) es
  found [] s = tt
  found (e ∷ es) s = (at_head e es, found_later e es es (sorted_head (slice_cmp nat_cmp) e.0 (keys_of es) s) (found es (sorted_tail (slice_cmp nat_cmp) e.0 (keys_of es) s)))

all_changed : {X : Type 0} (P Q : X → Type 0) → ((x : X) → P x → Q x) → (xs : List X) → AllByRecursion P xs → AllByRecursion Q xs
all_changed P Q f [] all = tt
all_changed P Q f (x ∷ xs) all = (f x all.0, all_changed P Q f xs all.1)

-- ---- the names of a session that has this mark for each lock

module _ {L : Type 0} (mark : L → Option Bool) (unasked : L) (nothing : mark unasked ≡ None) where
  marked : List ℕ → Option Bool → Names
  marked name None = []
  marked name (Some b) = (name, b) ∷ []

  listed : List ℕ → L → Names
  listed name l = marked name (mark l)

  listing : ByName L → Names
  listing es = gathered listed es

  listing_all : (P : List ℕ → Type 0) (es : ByName L) → AllByRecursion P (keys_of es) → AllByRecursion P (keys_of (listing es))
  unfolding marked listed listing
  listing_all P [] all = tt
  listing_all P (e ∷ es) all = by (mark e.1) (listing_all P es all.1)
    where
      by : (o : Option Bool) → AllByRecursion P (keys_of (listing es)) → AllByRecursion P (keys_of (marked e.0 o ++ listing es))
      by None rest = rest
      by (Some b) rest = (all.0, rest)

  listing_ascends : (es : ByName L) → Ascends es → Ascends (listing es)
  unfolding marked listed listing IsStrictlySortedBy
  listing_ascends [] s = tt
  listing_ascends (e ∷ es) s = by (mark e.1) (listing_all (λ k. slice_cmp nat_cmp e.0 k ≡ Less) es s.0) (listing_ascends es s.1)
    where
      by : (o : Option Bool) → AllByRecursion (λ k. slice_cmp nat_cmp e.0 k ≡ Less) (keys_of (listing es)) → Ascends (listing es) → Ascends (marked e.0 o ++ listing es)
      by None less rest = rest
      by (Some b) less rest = (less, rest)

  listing_found : (q : List ℕ) (es : ByName L) → Ascends es → mark_in q (listing es) ≡ mark (named unasked q es)
  unfolding marked listed listing
  listing_found q [] s = sym nothing
  listing_found q (e ∷ es) s = by (test q e.0) (mark e.1) refl refl (listing_found q es (sorted_tail (slice_cmp nat_cmp) e.0 (keys_of es) s))
    where
      none_after : test q e.0 ≡ true → mark (named unasked q es) ≡ None
      none_after at = ap (λ (o : Option L). mark (unwrap_or o unasked)) (past q e es s at) ∙ nothing

      by : (b : Bool) (o : Option Bool) → test q e.0 ≡ b → mark e.1 ≡ o → mark_in q (listing es) ≡ mark (named unasked q es)
          → lookup (test q) (marked e.0 o ++ listing es) ≡ mark (unwrap_or (cond b (Some e.1) (lookup (test q) es)) unasked)
      by true None at is rest = rest ∙ none_after at ∙ sym is
      by true (Some m) at is rest = rw at (sym is)
      by false None at is rest = rest
      by false (Some m) at is rest = rw at rest

  -- as many as the locks that are marked
  length_listing : (q : L → Bool) → ((l : L) → is_some (mark l) ≡ q l) → (es : ByName L) → length (listing es) ≡ length (filter (λ (e : List ℕ × L). q e.1) es)
  unfolding marked listed listing
  length_listing q same [] = refl
  length_listing q same (e ∷ es) = by (mark e.1) (q e.1) (same e.1) refl (length_listing q same es)
    where
      by : (o : Option Bool) (b : Bool) → is_some (mark e.1) ≡ b → mark e.1 ≡ o → length (listing es) ≡ length (filter (λ (e : List ℕ × L). q e.1) es)
          → length (marked e.0 o ++ listing es) ≡ length (cond b (e ∷ filter (λ (e : List ℕ × L). q e.1) es) (filter (λ (e : List ℕ × L). q e.1) es))
      by None true s m rest = absurd (let bad = sym (ap is_some m) ∙ s in cc)
      by None false s m rest = rest
      by (Some v) true s m rest = ap suc rest
      by (Some v) false s m rest = absurd (let bad = sym (ap is_some m) ∙ s in cc)

  names_listed : (locks : ByName L) (names : Names) → Ascends locks → Ascends names → ((name : List ℕ) → mark_in name names ≡ mark (named unasked name locks)) → names ≡ listing locks
  names_listed locks names s t same = same_names names (listing locks) t (listing_ascends locks s) (λ q. same q ∙ sym (listing_found q locks s))

  pub counted : (q : L → Bool) → ((l : L) → is_some (mark l) ≡ q l) → (locks : ByName L) (names : Names) → Ascends locks → Ascends names
      → ((name : List ℕ) → mark_in name names ≡ mark (named unasked name locks)) → length names ≡ length (filter (λ (e : List ℕ × L). q e.1) locks)
  counted q marks locks names s t same = ap length (names_listed locks names s t same) ∙ length_listing q marks locks

  -- what the names tell, where each lock has a part of it and those without a mark have none
  pub record Reads {X : Type 0} (g : List ℕ → L → List X) (locks : ByName L) (names : Names) : Type 0 where
    pub whole : gathered (λ name b. g name (named unasked name locks)) names ≡ gathered g locks
    pub each : AllByRecursion (λ (e : List ℕ × Bool). mark (named unasked e.0 locks) ≡ Some e.1) names

  module _ {X : Type 0} (g : List ℕ → L → List X) (silent : (name : List ℕ) (l : L) → mark l ≡ None → g name l ≡ []) (locks : ByName L) where
    abbrev told : List ℕ → Bool → List X
    told name b = g name (named unasked name locks)

    one_told : (name : List ℕ) (l : L) → named unasked name locks ≡ l → gathered told (listed name l) ≡ g name l
    unfolding marked listed listing
    one_told name l is = by (mark l) refl
      where
        by : (o : Option Bool) → mark l ≡ o → gathered told (marked name o) ≡ g name l
        by None m = sym (silent name l m)
        by (Some b) m = append-nil (told name b) ∙ ap (g name) is

    listing_told : (es : ByName L) → AllByRecursion (λ (e : List ℕ × L). named unasked e.0 locks ≡ e.1) es → gathered told (listing es) ≡ gathered g es
    unfolding listing
    listing_told [] all = refl
    listing_told (e ∷ es) all =
        gathered_append told (listed e.0 e.1) (listing es)
        ∙ ap (λ (zs : List X). zs ++ gathered told (listing es)) (one_told e.0 e.1 all.0)
        ∙ ap (λ (zs : List X). g e.0 e.1 ++ zs) (listing_told es all.1)

    pub reads : (names : Names) → Ascends locks → Ascends names → ((name : List ℕ) → mark_in name names ≡ mark (named unasked name locks)) → Reads g locks names
    reads names s t same =
        let is = names_listed locks names s t same in
        record {
          whole =
              ap (gathered told) is
              ∙ listing_told locks (all_changed (λ (e : List ℕ × L). lookup (test e.0) locks ≡ Some e.1) (λ (e : List ℕ × L). named unasked e.0 locks ≡ e.1) (λ e at. ap (λ (o : Option L). unwrap_or o unasked) at) locks (found locks s));
          each = all_changed (λ (e : List ℕ × Bool). mark_in e.0 names ≡ Some e.1) (λ (e : List ℕ × Bool). mark (named unasked e.0 locks) ≡ Some e.1) (λ e at. sym (same e.0) ∙ at) names (found names t);
        }
